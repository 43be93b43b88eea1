use Rattle.std.proofs.Common.{subst, sym, Ok}
use Rattle.ndr_code.specs.declared.instr.Instr.{Instr}
use Rattle.ndr_decoder_laws.specs.steps.Steps.{back_to, step}
use Rattle.ndr_decoder_laws.specs.steps.StepItems.{step_items}
use Rattle.ndr_decoder_state.specs.Notes.{Noted, notes_seen}
use Rattle.ndr_decoder_state.specs.Seen.{state_of}
use Rattle.ndr_decoder_value.proofs.Handing.{back_leaves, quiet_end}
use Rattle.ndr_decoder_value.proofs.steps.take_step.Goals as goal

pub returns-in-Ret-clause-noted : goal.returns-in-Ret-clause-noted
returns-in-Ret-clause-noted g c =
    let m = c.args.machine.now in
    let n = g.L.Ledger.number c.args.steps.now in
    subst
    (λ (i : Instr). Noted (step c.args.values.now c.args.order c.args.octets.now i (state_of m)) (step_items c.args.order m.home c.args.octets.now i (state_of m))
    (notes_seen c.args.items.now c.args.items.now n n m.cells c.ret.new.self.cells) (Ok c.ret.result))
    (sym c.in-Ret.is) (quiet_end (back_to m.top (state_of m)) c.args.items.now n m c.ret.new.self c.ret.result (back_leaves m.top (state_of m)) c.ret.ensures.does)
