use Rattle.std.proofs.Common.{ap, reverse}
use Rattle.ndr_decoder_laws.specs.steps.Steps.{State}
use Rattle.ndr_decoder_state.specs.Seen.{state_of}
use Rattle.ndr_decoder_state.proofs.Frames.{pc_after_pop}
use Rattle.ndr_decoder_state.proofs.machine.Machine.close_other.Goals as goal

pub skip-requires : goal.skip-requires
skip-requires c =
    record { code = pc_after_pop c.pop.new.self.pc (reverse c.args.self.now.stack.items) (state_of c.args.self.now) (ap (λ (s : State). s.pc) c.pop.ensures.is) c.requires.code }
