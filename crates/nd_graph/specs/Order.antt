-- How the order of cells is found.
-- `g` is a graph, `h` a home, `c` a cell's number, `k` a place among the cells by their new numbers, `s` how far the search has come.
use Rattle.std.specs.Prelude.{◌≡◌, ℕ, ◌+◌, ◌-◌, ◌<◌, ◌≤◌, ◌^◌, suc, zero, Bool, true, false, not, List, [], ◌∷◌, ◌++◌, length, slice_index_or, set}
use Rattle.std.specs.Prelude.{reverse}
use Rattle.std.specs.List.{AllByRecursion}
use Rattle.nd_value.specs.declared.value.Graph.{Graph}
use Rattle.nd_value.specs.declared.item.Home.{Home}
use Rattle.nd_value.specs.declared.item.Home.TheVariants as home
use Rattle.nd_value.specs.Setting.{Among}
use Rattle.nd_value.specs.Names.{AreThere, named_by}
use Rattle.nd_value.specs.Canon.{canonical_number}
use Rattle.nd_flat.specs.Building.{home_tree}
use Rattle.nd_graph.specs.Naming.{AreNamed, cell_homes}

-- the numbers of cells by the cell, from 0, where 0 is for one that is not named; and the cells by these numbers, from 1
pub record Numbering : Type 0 where
  pub numbers : List ℕ
  pub cells : List ℕ

abbrev pub numbering : List ℕ → List ℕ → Numbering
numbering numbers cells = record { numbers = numbers; cells = cells }

-- a cell has the next number, unless it has one
abbrev pub name_by : ℕ → ℕ → Numbering → Numbering
name_by zero c s = record { numbers = set s.numbers c (suc (length s.cells)); cells = s.cells ++ c ∷ [] }
name_by (suc k) c s = s

-- cells are named one after the other
abbrev pub name : List ℕ → Numbering → Numbering
name [] s = s
name (c ∷ cs) s = name cs (name_by (slice_index_or s.numbers c 0) c s)

-- how many cells have no number
abbrev pub zeros : List ℕ → ℕ
zeros [] = 0
zeros (zero ∷ ns) = suc (zeros ns)
zeros (suc k ∷ ns) = zeros ns

-- these cells can be given numbers
pub record HaveNumbers (numbers cells cs : List ℕ) : Type 0 where
  pub there : AllByRecursion (λ c. (0 < c) × (c < length numbers)) cs
  pub first : slice_index_or numbers 0 0 ≡ 0
  pub few : length cells + zeros numbers ≤ 2 ^ 32

-- the home is deferred still: a root, or a cell that does not stand yet
abbrev pub is_deferred : List Bool → Home → Bool
is_deferred stands (home.Root i) = true
is_deferred stands (home.Cell c) = not (slice_index_or stands (c.0 - 1) false)

-- the marks of the cells that stand, with this home
abbrev pub with_mark : Home → List Bool → List Bool
with_mark (home.Root i) stands = stands
with_mark (home.Cell c) stands = set stands (c.0 - 1) true

-- there is a mark for the home, if it is a cell
abbrev pub HasMark : List Bool → Home → Type 0
HasMark stands (home.Root i) = Unit {0}
HasMark stands (home.Cell c) = (0 < c.0) × (c.0 ≤ length stands)

-- how far the search has come: numbers, marks of the cells that stand, and the homes that are due, in order
pub record Ordering : Type 0 where
  pub named : Numbering
  pub stands : List Bool
  pub due : List Home

-- the same as it is kept, with the next home last
abbrev pub ordering : List ℕ → List ℕ → List Bool → List Home → Ordering
ordering numbers cells stands due = record { named = numbering numbers cells; stands = stands; due = reverse due }

-- a home that is due is visited: unless it stands already, the cells of its pointers are named and become due before the others
abbrev pub visited_by : Bool → Graph → Home → Ordering → Ordering
visited_by false g h s = record { named = s.named; stands = with_mark h s.stands; due = s.due }
visited_by true g h s = record {
  named = name (named_by (home_tree g h)) s.named;
  stands = with_mark h s.stands;
  due = cell_homes (named_by (home_tree g h)) ++ s.due;
}

abbrev pub visited : Graph → Home → Ordering → Ordering
visited g h s = visited_by (is_deferred s.stands h) g h s

-- each cell is named
abbrev pub IsAllNamed : Graph → Type 0
IsAllNamed g = (ns : List ℕ) → AreNamed g ns → (c : ℕ) → 0 < c → c ≤ length g.cells → Among ns c

-- The order of all cells: each number is the canonical one, and the numbers by the cells and the cells by the numbers are inverse to
-- each other.
pub record IsOrder (g : Graph) (numbers cells : List ℕ) : Type 0 where
  pub names : List ℕ
  pub named : AreNamed g names
  pub canonical : (c : ℕ) → slice_index_or numbers c 0 ≡ canonical_number names c
  pub all : length cells ≡ length g.cells
  pub there : AreThere (length g.cells) cells
  pub numbered : (c : ℕ) → 0 < c → c ≤ length g.cells → 0 < slice_index_or numbers c 0
  pub number : (k : ℕ) → k < length cells → slice_index_or numbers (slice_index_or cells k 0) 0 ≡ suc k
  pub cell : (c k : ℕ) → slice_index_or numbers c 0 ≡ suc k → (k < length cells) × (slice_index_or cells k 0 ≡ c)
