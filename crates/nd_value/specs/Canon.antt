-- When two graphs are the same, and the order of a graph's cells.
use Rattle.std.specs.Prelude.{◌≡◌, ◌⊎◌, ℕ, ◌+◌, ◌<◌, ◌≤◌, zero, suc, Bool, true, false, if◌then◌else◌, ◌==◌, List, [], ◌∷◌, ◌++◌, length, map}
use Rattle.std.specs.Prelude.{flat_map, Option}
use Rattle.std.specs.Prelude.{Some, None}
use Rattle.std.specs.List.{slice_get}
use Rattle.nd_types.specs.Table.{Table}
use Rattle.nd_value.specs.declared.value.Graph.{Graph}
use Rattle.nd_value.specs.declared.item.Home.{Home}
use Rattle.nd_value.specs.declared.item.Home.TheVariants as home
use Rattle.nd_value.specs.Tree as tree
use Rattle.nd_value.specs.Tree.{Tree, Trees, node, none, more, Label, Referent, trees}
use Rattle.nd_value.specs.Setting.{Setting, root_list}
use Rattle.nd_value.specs.Deferral.{Step, root_stands, referent_stands, stands_already, Deferral, Standing, standing_root, standing_cell}
use Rattle.nd_value.specs.Deferral.{home_pointers, Pending, due_roots, before_pipes}

-- ## Graphs that are the same up to the numbers of their cells

-- `g` and `h` are graphs, `m` is a map of cell numbers, `c` and `d` are numbers of cells, `x` and `y` cells.

-- a label whose cell is carried by a map
abbrev pub renumbered_label : (ℕ → ℕ) → Label → Label
renumbered_label m (tree.Ptr (Some c)) = tree.Ptr (Some (m c))
renumbered_label m l = l

-- trees with each pointer's cell carried by a map
abbrev pub renumbered : (ℕ → ℕ) → Trees → Trees
renumbered m none = none
renumbered m (more (node l ks) ts) = more (node (renumbered_label m l) (renumbered m ks)) (renumbered m ts)

-- A one-to-one map of g's cells onto h's carries g to h. It is a map of the cells that there are: a pointer that names none of them
-- names the same number in both.
pub record Same (g h : Graph) : Type 0 where
  pub image : ℕ → ℕ
  pub as_many : length g.cells ≡ length h.cells
  pub within : (c : ℕ) → 0 < c → c ≤ length g.cells → (0 < image c) × (image c ≤ length g.cells)
  pub one_to_one : (c d : ℕ) → 0 < c → c ≤ length g.cells → 0 < d → d ≤ length g.cells → image c ≡ image d → c ≡ d
  pub elsewhere : (c : ℕ) → (c ≡ 0) ⊎ (length g.cells < c) → image c ≡ c
  pub roots : renumbered image (trees g.roots) ≡ trees h.roots
  pub cells : (c d : ℕ) (x y : Referent) → slice_get g.cells c ≡ Some x → image (suc c) ≡ suc d → slice_get h.cells d ≡ Some y
      → (x.of ≡ y.of) × (renumbered image (more x.val none) ≡ more y.val none)

-- ## The order of cells: by the first pointer to them in the order of the stream

-- `w` is a setting, `g` and `h` are graphs, `p` is a pointer, `c` and `d` are numbers of cells, `x` is a value that stands,
-- `n` the next number to give.

-- the cell that a pointer names, as a list
abbrev pub target : Option ℕ → List ℕ
target None = []
target (Some c) = c ∷ []

-- the cells that the pointers of a value name, as they stand
abbrev pub named : Table → Standing → List ℕ
named table x = flat_map (λ p. target p.cell) (home_pointers table x.home x.of x.val)

-- the cell that a value is the referent of: a top-level reference pointer names it where the referent begins
abbrev pub own_cell : Home → List ℕ
own_cell (home.Root i) = []
own_cell (home.Cell c) = c.0 ∷ []

-- the cells that a step of deferral names
abbrev pub step_names : Setting → Graph → Step → List ℕ
step_names w g (root_stands i) = own_cell (standing_root w g i).home ++ named w.table (standing_root w g i)
step_names w g (referent_stands p c) = named w.table (standing_cell g p c)
step_names w g (stands_already p c) = []

-- the cells in the order in which pointers name them, each time that one does
abbrev pub named_cells : Setting → Graph → List Step → List ℕ
named_cells w g steps = flat_map (step_names w g) steps

-- a cell is among them
abbrev pub has : List ℕ → ℕ → Bool
has [] c = false
has (d ∷ ds) c = if c == d then true else has ds c

-- The number of a cell, counting the named cells from n on, each once; those of `seen` were counted before. (By `elim`, since
-- `if` computes both of its branches.)
abbrev pub number_from : ℕ → List ℕ → List ℕ → ℕ → ℕ
number_from n seen [] c = 0
number_from n seen (d ∷ ds) c =
    elim (has seen d) [
      | true ↦ number_from n seen ds c
      | false ↦ elim (c == d) [ true ↦ n | false ↦ number_from (n + 1) (d ∷ seen) ds c ]
    ]

-- the number of a cell by the order in which cells are named; 0 for one that is not named
abbrev pub canonical_number : List ℕ → ℕ → ℕ
canonical_number ds c = number_from 1 [] ds c

-- h is g with its cells numbered by the first pointer to them
pub record IsCanon (w : Setting) (g h : Graph) : Type 0 where
  pub steps : List Step
  pub deferral : Deferral w g [] (due_roots 0 (before_pipes (root_list w))) steps
  pub same : Same g h
  pub numbered : (c : ℕ) → 0 < c → c ≤ length g.cells → same.image c ≡ canonical_number (named_cells w g steps) c
