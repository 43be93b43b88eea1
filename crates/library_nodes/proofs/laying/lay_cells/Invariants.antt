use Rattle.std.proofs.Common.{take, map}
use Rattle.nd_value.specs.Tree.{Referent}
use Rattle.library_nodes.specs.Laying.{AddsHomes}
use Rattle.library_nodes.proofs.laying.lay_cells.Given as goal

abbrev pub invariant-loop-at : goal.invariant-loop-at
invariant-loop-at l = AddsHomes (map (λ (x : Referent). x.val) (take l.at l.graph.cells)) l.initial.list l.initial.starts.items l.list l.starts.items
