-- Which cells the pointers of values name, by what nodes say alone.
-- `g` is a graph, `t` a tree, `ts` are trees, `cs` numbers of cells, `n` is how many cells there are.
use Rattle.std.specs.Prelude.{ℕ, ◌<◌, ◌≤◌, List, length, flat_map}
use Rattle.std.specs.List.{AllByRecursion}
use Rattle.nd_value.specs.declared.value.Graph.{Graph}
use Rattle.nd_value.specs.Tree.{Tree, Trees, none, more, flat, cell_in}
use Rattle.nd_value.specs.Canon.{target}

-- the cells that the pointers among trees name, depth first
abbrev pub cells_in : Trees → List ℕ
cells_in ts = flat_map (λ f. target (cell_in f.0)) (flat ts)

-- the cells that a home's pointers name
abbrev pub named_by : Tree → List ℕ
named_by t = cells_in (more t none)

-- cells that are there
abbrev pub AreThere : ℕ → List ℕ → Type 0
AreThere n cs = AllByRecursion (λ c. (0 < c) × (c ≤ n)) cs

-- each pointer names a cell that is there
pub record HasNames (g : Graph) : Type 0 where
  pub roots : AllByRecursion (λ t. AreThere (length g.cells) (named_by t)) g.roots
  pub cells : AllByRecursion (λ x. AreThere (length g.cells) (named_by x.val)) g.cells
