use Rattle.ndr_drain_reader.proofs.SidePipes.{AllUpTo}
use Rattle.ndr_drain_reader.proofs.pipes.checks_line.Given as goal

abbrev pub invariant-loop-number : goal.invariant-loop-number
invariant-loop-number l = AllUpTo l.fn.plan l.fn.op l.fn.side l.number
