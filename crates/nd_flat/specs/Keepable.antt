-- Values that nodes can keep.
use Rattle.std.specs.Prelude.{◌<◌, ◌^◌}
use Rattle.std.specs.List.{AllByRecursion}
use Rattle.nd_value.specs.declared.value.Graph.{Graph}
use Rattle.nd_value.specs.Conforms.{FewNodes}
use Rattle.nd_value.specs.Tree.{Trees, node, none, more, trees, node_count, Referent}
use Rattle.nd_flat.specs.FlatForm.{IsKeepable}

-- each node can be kept
abbrev pub AreKeepable : Trees → Type 0
AreKeepable none = Unit {0}
AreKeepable (more (node l ks) ts) = IsKeepable l × (AreKeepable ks × AreKeepable ts)

-- each value of a graph can be kept, and its nodes are numbered in 32 bits
pub record HasKeepable (g : Graph) : Type 0 where
  pub roots : AreKeepable (trees g.roots)
  pub cells : AllByRecursion (λ (x : Referent). AreKeepable (more x.val none)) g.cells
  pub few_roots : FewNodes g.roots
  pub few_cells : AllByRecursion (λ (x : Referent). node_count (more x.val none) < 2 ^ 32) g.cells
