use Rattle.command_sample.proofs.Drawing.{Drawn}
use Rattle.command_sample.proofs.nodes.nodes.Given as goal

abbrev pub invariant-loop-at : goal.invariant-loop-at
invariant-loop-at l = Drawn l.count l.seed l.at l.state l.cells
