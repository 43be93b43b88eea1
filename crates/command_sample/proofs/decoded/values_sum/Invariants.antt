use Rattle.command_sample.proofs.Values.{Summed}
use Rattle.command_sample.proofs.decoded.values_sum.Given as goal

abbrev pub invariant-loop-at : goal.invariant-loop-at
invariant-loop-at l = Summed l.graph.cells l.at l.sum
