use Rattle.ndr_drain_reader.specs.Heads.{AddsPipes}
use Rattle.ndr_drain_reader.proofs.head.add_pipes.Given as goal

abbrev pub invariant-loop-pipe : goal.invariant-loop-pipe
invariant-loop-pipe l = AddsPipes l._pipe l.initial.builder l.builder
