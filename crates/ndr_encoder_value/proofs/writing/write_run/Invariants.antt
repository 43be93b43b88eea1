use Rattle.std.proofs.Common.{◌-◌, []}
use Rattle.nd_value.specs.Tree.{flat}
use Rattle.ndr_encoder_output.specs.Outputs.{Moves}
use Rattle.ndr_encoder_laws.specs.written.Run.{run}
use Rattle.ndr_encoder_value.proofs.writing.write_run.Given as goal

abbrev pub invariant-loop-turn : goal.invariant-loop-turn
invariant-loop-turn g l =
    Moves g.O.Output.can g.O.Output.whole l.initial.out l.out (run l.run.code.now l.run.max l.run.chunk l.most l.start [] (flat l.initial.walk))
    (run l.run.code.now l.run.max l.run.chunk (l.most - l._turn) l.pc l.frames (flat l.walk))
