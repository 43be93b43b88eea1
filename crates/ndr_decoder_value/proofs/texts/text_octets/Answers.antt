use Rattle.std.proofs.Common.{◌≡◌, ◌<◌, ◌^◌, ℤ, None, refl, sym, ap, ◌∙◌, length, pos, arith}
use Rattle.std.proofs.lemmas.Int.{to_z_pos}
use mir.Val.{hbits}
use mir.Syntax.{w128}
use Rattle.nd_value.specs.Logged.{noted}
use Rattle.nd_grammar.specs.Refusal.{text_refusal}
use Rattle.nd_value.specs.declared.item.ItemKind.TheVariants as item
use Rattle.ndr_decoder_laws.specs.steps.Steps.{State}
use Rattle.ndr_decoder_laws.specs.steps.StepItems.{next_item}
use Rattle.ndr_decoder_state.specs.Seen.{state_of}
use Rattle.ndr_decoder_value.proofs.Noting.{same_cells, one_noted}
use Rattle.ndr_decoder_value.proofs.Counting.{text_stopped}
use Rattle.ndr_decoder_value.proofs.texts.text_octets.Goals as goal

pub returns-in_err-add-clause-noted : goal.returns-in_err-add-clause-noted
returns-in_err-add-clause-noted g c =
    let m = c.args.machine.now in
    let os = c.args.octets.now in
    let none : text_refusal m.at os ≡ None = sym c.refused_text.ensures ∙ c.in_default.is in
    let low : length os < 2 ^ hbits w128 = omega (arith, c.requires.fits) in
    let item_with = λ (z : ℤ). next_item m.home (state_of m) item.Text (length os) z in
    text_stopped m (text_refusal m.at os) (item_with (pos (length os))) c.args.limit os c.args.items.now c.note.new.items
    (g.L.Ledger.number c.args.steps.now) (g.L.Ledger.number c.note.new.steps) c.add.new.self.cells
    c.from_residual-in_err-add.result c.in_err-add.field-0.0 none refl c.from_residual-in_err-add.ensures.1 c.in_err-add.ensures.memory
    (c.in_ok-note.ensures.ok ∙ ap (λ (z : ℤ). noted (item_with z) c.args.items.now) (to_z_pos w128 (length os) low)) c.in_ok-note.ensures.ticks

pub returns-clause-noted : goal.returns-clause-noted
returns-clause-noted g c =
    let m = c.args.machine.now in
    let os = c.args.octets.now in
    let low : length os < 2 ^ hbits w128 = omega (arith, c.requires.fits) in
    let item_with = λ (z : ℤ). next_item m.home (state_of m) item.Text (length os) z in
    one_noted (item_with (pos (length os))) c.args.items.now c.note.new.items
    (g.L.Ledger.number c.args.steps.now) (g.L.Ledger.number c.note.new.steps) m.cells c.pass.new.self.cells
    (c.in_ok-note.ensures.ok ∙ ap (λ (z : ℤ). noted (item_with z) c.args.items.now) (to_z_pos w128 (length os) low)) c.in_ok-note.ensures.ticks
    (same_cells m c.pass.new.self (ap (λ (s : State). s.cells) c.pass.ensures.is ∙ ap (λ (s : State). s.cells) c.in_ok-add.ensures.ok))
