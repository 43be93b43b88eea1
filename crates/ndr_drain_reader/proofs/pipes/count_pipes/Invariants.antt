use Rattle.ndr_drain_reader.proofs.SidePipes.{AllCounted}
use Rattle.ndr_drain_reader.proofs.pipes.count_pipes.Given as goal

abbrev pub invariant-loop-next : goal.invariant-loop-next
invariant-loop-next l = AllCounted l.plan l.op l.side l.next l.count
