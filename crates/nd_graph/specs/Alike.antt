-- Two graphs beside each other, pointers being compared by the numbers of their cells in the order of each graph.
-- `g` and `h` are graphs, `m` and `n` the numbers of their cells, `i` is a root's index, `k` a place among the cells by their numbers, `cs` and `ds`
-- are the cells of the two in these orders, `fs` are nodes.
use Rattle.std.specs.Prelude.{◌≡◌, ℕ, ◌<◌, List, length, slice_index_or, map}
use Rattle.nd_value.specs.declared.value.Graph.{Graph}
use Rattle.nd_value.specs.Tree.{Flat}
use Rattle.nd_value.specs.Setting.{root_at, cell_at, cell_of_number}
use Rattle.nd_value.specs.Canon.{renumbered_label}
use Rattle.nd_flat.specs.Building.{referent_type}
use Rattle.nd_flat.specs.Renumbered.{renumbered_tree}

-- the new number of a cell; 0 if it has none
abbrev pub number_by : List ℕ → ℕ → ℕ
number_by numbers c = slice_index_or numbers c 0

-- a node with its cell renumbered, if it names one
abbrev pub renumbered_flat : (ℕ → ℕ) → Flat → Flat
renumbered_flat m f = (renumbered_label m f.0, f.1)

abbrev pub renumbered_flats : (ℕ → ℕ) → List Flat → List Flat
renumbered_flats m fs = map (renumbered_flat m) fs

-- the roots say the same
abbrev pub AreSameRoots : (m n : ℕ → ℕ) → Graph → Graph → Type 0
AreSameRoots m n g h = (i : ℕ) → i < length g.roots → renumbered_tree m (root_at g i) ≡ renumbered_tree n (root_at h i)

-- two cells, by their numbers, are of one type and say the same
pub record IsSameCell (m n : ℕ → ℕ) (g h : Graph) (c d : ℕ) : Type 0 where
  pub of : referent_type (cell_of_number g c) ≡ referent_type (cell_of_number h d)
  pub val : renumbered_tree m (cell_at g c) ≡ renumbered_tree n (cell_at h d)

-- the cells of one number say the same
abbrev pub AreSameCells : (m n : ℕ → ℕ) → Graph → Graph → List ℕ → List ℕ → Type 0
AreSameCells m n g h cs ds = (k : ℕ) → k < length g.cells → IsSameCell m n g h (slice_index_or cs k 0) (slice_index_or ds k 0)

-- the graphs have as many roots and cells, which say the same
pub record AreAlike (m n : ℕ → ℕ) (g h : Graph) (cs ds : List ℕ) : Type 0 where
  pub all_roots : length g.roots ≡ length h.roots
  pub all_cells : length g.cells ≡ length h.cells
  pub roots : AreSameRoots m n g h
  pub cells : AreSameCells m n g h cs ds
