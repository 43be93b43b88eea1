use Rattle.std.proofs.Common.{◌≡◌, length}
use Rattle.bench_graph.specs.List.{AreNodes}
use Rattle.bench_graph.proofs.list.cells.Given as goal

abbrev pub invariant-loop-at : goal.invariant-loop-at
invariant-loop-at l = (length l.cells ≡ l.at) × AreNodes l.cells
