use Rattle.std.proofs.Common.{◌≡◌, ℤ, ap, ◌∙◌, pos, rules}
use Rattle.std.proofs.lemmas.Int.{to_z-of_z}
use mir.Val.{SFits, of_z, to_z}
use mir.Syntax.{w128}
use Rattle.nd_value.specs.Logged.{noted}
use Rattle.nd_value.specs.declared.item.ItemKind.TheVariants as item
use Rattle.ndr_decoder_laws.specs.steps.Steps.{State}
use Rattle.ndr_decoder_laws.specs.steps.StepItems.{next_item}
use Rattle.ndr_decoder_state.specs.Seen.{state_of}
use Rattle.ndr_decoder_value.proofs.Noting.{same_cells, one_noted}
use Rattle.ndr_decoder_value.proofs.arrays.maximum.Goals as goal

pub returns-clause-noted : goal.returns-clause-noted
returns-clause-noted g c =
    let m = c.args.machine.now in
    let fits : SFits w128 c.from.result = search rules in
    let value : to_z w128 (of_z w128 c.from.result) ≡ pos c.args.max = to_z-of_z w128 c.from.result fits ∙ c.from.ensures in
    one_noted (next_item m.home (state_of m) item.Max 4 (pos c.args.max)) c.args.items.now c.note.new.items
    (g.L.Ledger.number c.args.steps.now) (g.L.Ledger.number c.note.new.steps) m.cells c.pass.new.self.cells
    (c.in_ok-note.ensures.ok ∙ ap (λ (z : ℤ). noted (next_item m.home (state_of m) item.Max 4 z) c.args.items.now) value) c.in_ok-note.ensures.ticks
    (same_cells m c.pass.new.self (ap (λ (s : State). s.cells) c.pass.ensures.is))
