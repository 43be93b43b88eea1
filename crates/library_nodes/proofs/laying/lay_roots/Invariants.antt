use Rattle.std.proofs.Common.{take}
use Rattle.library_nodes.specs.Laying.{AddsHomes}
use Rattle.library_nodes.proofs.laying.lay_roots.Given as goal

abbrev pub invariant-loop-at : goal.invariant-loop-at
invariant-loop-at l = AddsHomes (take l.at l.graph.roots) l.initial.list l.initial.starts.items l.list l.starts.items
