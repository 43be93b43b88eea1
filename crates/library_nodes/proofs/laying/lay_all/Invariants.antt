use Rattle.std.proofs.Common.{List, ◌++◌, length}
use Rattle.nd_value.specs.Tree.{Flat, flat}
use Rattle.library_nodes.specs.declared.nodes.NodeList.{NodeList}
use Rattle.library_nodes.specs.Laying.{AddsOpen}
use Rattle.library_nodes.proofs.Walked.{Walks}
use Rattle.library_nodes.proofs.laying.lay_all.Given as goal

abbrev pub invariant-loop-seen : goal.invariant-loop-seen
invariant-loop-seen l =
    (a : NodeList) (fs : List Flat) → AddsOpen fs a l.initial.list l.initial.unfinished → Walks (fs ++ flat l.initial.walk) a (flat l.walk) l.list l.unfinished

abbrev pub decreases-loop-seen : goal.decreases-loop-seen
decreases-loop-seen l = length (flat l.walk)
