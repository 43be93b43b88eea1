use Rattle.std.proofs.Common.{ap, reverse}
use Rattle.ndr_decoder_laws.specs.steps.Steps.{State, with_members}
use Rattle.ndr_decoder_state.specs.Seen.{state_of}
use Rattle.ndr_decoder_state.proofs.Frames.{pc_after_pop}
use Rattle.ndr_decoder_state.proofs.machine.Machine.close_record.Goals as goal

pub skip-requires : goal.skip-requires
skip-requires c =
    let s : State = with_members c.truncate.new.self.items c.truncate-2.new.self.items (state_of c.args.self.now) in
    record { code = pc_after_pop c.pop.new.self.pc (reverse c.args.self.now.stack.items) s (ap (λ (s : State). s.pc) c.pop.ensures.is) c.requires.code }
