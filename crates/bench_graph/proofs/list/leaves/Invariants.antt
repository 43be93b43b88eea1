use Rattle.bench_graph.specs.List.{AreLeaves}
use Rattle.bench_graph.proofs.list.leaves.Given as goal

abbrev pub invariant-loop-at : goal.invariant-loop-at
invariant-loop-at l = AreLeaves l.items l._at
