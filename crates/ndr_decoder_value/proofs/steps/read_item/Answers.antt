use Rattle.std.proofs.Common.{subst, sym}
use Rattle.ndr_code.specs.declared.instr.Instr.{Instr}
use Rattle.ndr_code.specs.declared.instr.Instr.TheVariants as op
use Rattle.ndr_decoder_laws.specs.steps.Steps.{State, step}
use Rattle.ndr_decoder_laws.specs.steps.StepItems.{step_items}
use Rattle.ndr_decoder_state.specs.Notes.{Noted, notes_seen}
use Rattle.ndr_decoder_state.specs.Seen.{state_of}
use Rattle.ndr_decoder_value.proofs.Handing.{quiet, tag_leaves}
use Rattle.ndr_decoder_value.proofs.steps.read_item.Goals as goal

pub returns-in-Tag-clause-noted : goal.returns-in-Tag-clause-noted
returns-in-Tag-clause-noted g c =
    let values = c.args.values.now in
    let order = c.args.order in
    let os = c.args.octets.now in
    let m = c.args.machine.now in
    let s : State = state_of m in
    let n = g.L.Ledger.number c.args.steps.now in
    subst
    (λ (i : Instr). Noted {T = Unit {0}} (step values order os i s) (step_items order m.home os i s)
    (notes_seen c.args.items.now c.args.items.now n n m.cells c.tag.new.machine.cells) c.tag.result)
    (sym c.in-Tag.is)
    (quiet (step values order os (op.Tag c.in-Tag.of) s) c.args.items.now n m c.tag.new.machine c.tag.result
    (tag_leaves values order os c.in-Tag.of s) c.tag.ensures.does)
