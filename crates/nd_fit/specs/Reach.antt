-- Which cells are reached, by what nodes say alone; and the search for them.
-- `g` is a graph, `t` a tree, `b` and `c` are cells' numbers, `cs` some of them, `n` is how many cells there are, `s` how far the search has come.
use Rattle.std.specs.Prelude.{◌≡◌, ℕ, suc, ◌+◌, ◌<◌, ◌≤◌, Bool, true, false, List, [], ◌∷◌, ◌++◌, length, slice_index_or, set, Option, Some, None}
use Rattle.std.specs.List.{AllByRecursion}
use Rattle.nd_value.specs.declared.value.Graph.{Graph}
use Rattle.nd_value.specs.declared.value.CellId.{CellId}
use Rattle.nd_types.specs.Table.{Table}
use Rattle.nd_types.specs.Roots.{Root}
use Rattle.nd_value.specs.Tree.{Tree, none, more, Referent}
use Rattle.nd_misfits.specs.Pointers.{are_formed}
use Rattle.nd_value.specs.Setting.{Among, cell_at}
use Rattle.nd_value.specs.Names.{named_by, AreThere}

-- a cell that a root, or a cell that is reached itself, names
pub data Reach (g : Graph) : ℕ → Type 0 where
  root_names : {c : ℕ} (t : Tree) → Among g.roots t → Among (named_by t) c → Reach g c
  cell_names : {c : ℕ} (b : ℕ) → Reach g b → Among (named_by (cell_at g b)) c → Reach g c

-- how far a search has come: the marks of cells, by number, and the cells that were marked, in order
pub record Search : Type 0 where
  pub marks : List Bool
  pub queue : List ℕ

abbrev pub searched : List Bool → List ℕ → Search
searched marks queue = record { marks = marks; queue = queue }

abbrev pub is_marked : Search → ℕ → Bool
is_marked s c = slice_index_or s.marks c false

-- a cell is marked, unless it is
abbrev pub note_by : Bool → ℕ → Search → Search
note_by true c s = s
note_by false c s = record { marks = set s.marks c true; queue = s.queue ++ c ∷ [] }

abbrev pub note : List ℕ → Search → Search
note [] s = s
note (c ∷ cs) s = note cs (note_by (is_marked s c) c s)

-- the cells that roots name
abbrev pub note_roots : List Tree → Search → Search
note_roots [] s = s
note_roots (t ∷ ts) s = note_roots ts (note (named_by t) s)

-- cells that can be marked
abbrev pub HaveMarks : List Bool → List ℕ → Type 0
HaveMarks marks cs = AllByRecursion (λ c. c < length marks) cs

-- all are marked
abbrev pub AreMarked : Search → List ℕ → Type 0
AreMarked s cs = AllByRecursion (λ c. is_marked s c ≡ true) cs

-- how many marks are not set
abbrev pub unmarked : List Bool → ℕ
unmarked [] = 0
unmarked (true ∷ ms) = unmarked ms
unmarked (false ∷ ms) = suc (unmarked ms)

-- What a search keeps: what is marked is reached and is in the queue; what the roots and the first cells of the queue name is marked.
pub record Searching (g : Graph) (rs : List Tree) (s : Search) (at : ℕ) : Type 0 where
  pub sound : AllByRecursion (Reach g) s.queue
  pub there : AreThere (length g.cells) s.queue
  pub queued : (c : ℕ) → is_marked s c ≡ true → Among s.queue c
  pub roots : AllByRecursion (λ t. AreMarked s (named_by t)) rs
  pub closed : (i : ℕ) → i < at → AreMarked s (named_by (cell_at g (slice_index_or s.queue i 0)))
  pub marks : length s.marks ≡ suc (length g.cells)
  pub few : length s.queue + unmarked s.marks ≡ suc (length g.cells)

-- each root has the form of its type, and there are as many values as roots
abbrev pub RootsFormed : Table → List Root → List Tree → Type 0
RootsFormed table (r ∷ rs) (v ∷ vs) = (are_formed table (r.of ∷ []) (more v none) ≡ true) × RootsFormed table rs vs
RootsFormed table [] [] = Unit {0}
RootsFormed table _ _ = ⊥

-- the same of each cell
abbrev pub CellsFormed : Table → List Referent → Type 0
CellsFormed table xs = AllByRecursion (λ x. are_formed table (x.of ∷ []) (more x.val none) ≡ true) xs

-- the first cell that is not reached, if one is not
abbrev pub TellsReach : Graph → Option CellId → Type 0
TellsReach g None = (c : ℕ) → 0 < c → c ≤ length g.cells → Reach g c
TellsReach g (Some c) = (0 < c.0) × (c.0 ≤ length g.cells) × (¬ Reach g c.0) × ((d : ℕ) → 0 < d → d < c.0 → Reach g d)

-- the first cell that is not marked, if one is not
abbrev pub TellsMark : ℕ → List Bool → Option CellId → Type 0
TellsMark n marks None = (c : ℕ) → 0 < c → c ≤ n → slice_index_or marks c false ≡ true
TellsMark n marks (Some c) =
    (0 < c.0) × (c.0 ≤ n) × (slice_index_or marks c.0 false ≡ false) × ((d : ℕ) → 0 < d → d < c.0 → slice_index_or marks d false ≡ true)
