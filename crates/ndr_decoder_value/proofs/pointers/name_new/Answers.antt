use mir.Val.{SFits}
use mir.Syntax.{w128}
use Rattle.std.proofs.lemmas.Int.{to_z-of_z}
use Rattle.nd_value.specs.Logged.{noted}
use Rattle.std.proofs.Common.{rules, ℤ, ◌∙◌, ◌≡◌, ◌+◌, ◌-◌, ℕ, Some, ap, pos, Err, refl, arith}
use Rattle.nd_value.specs.declared.item.ItemKind.TheVariants as item
use Rattle.ndr_decoder_laws.specs.steps.StepItems.{next_item}
use Rattle.ndr_decoder_laws.specs.steps.Steps.{done_after, new_cell, owing}
use Rattle.ndr_decoder_state.specs.declared.fault.DecodeFault.TheVariants as fault
use Rattle.ndr_decoder_state.specs.Seen.{state_of}
use Rattle.ndr_decoder_value.proofs.Noting.{goes_memory}
use Rattle.ndr_decoder_value.proofs.Owing.{with_builder, reserved_is, new_is}
use Rattle.ndr_decoder_value.proofs.Reserving.{stopped_at_cell, one_with_cell, cells_after, one_cell_more, outside_stays}
use Rattle.ndr_decoder_fast.proofs.Owing.{next_cell}
use Rattle.ndr_decoder_value.proofs.pointers.name_new.Goals as goal

pub returns-clause-does : goal.returns-clause-does
returns-clause-does g c =
    let m = c.args.machine.now in
    let s = state_of m in
    new_is s (with_builder c.reserve.new.self s) (state_of c.owe.new.machine) (state_of c.pass.new.self) c.args.to.class c.args.to.to c.args.to.run c.in_ok-cell.cell
    (reserved_is s m.builder c.reserve.new.self c.args.to.to.0 c.in_ok-cell.ensures.ok refl refl) (next_cell m c.in_ok-cell.cell.0 c.in_ok-cell.ensures.cell)
    c.in_ok-owe.ensures.does c.pass.ensures.is

pub returns-in_err-cell-clause-noted : goal.returns-in_err-cell-clause-noted
returns-in_err-cell-clause-noted g c =
    let m = c.args.machine.now in
    let x = next_item m.home (state_of m) item.Number 4 (pos c.args.number) in
    let fits : SFits w128 c.from.result = search rules in
    let logged = c.in_ok-note.ensures.ok ∙ ap (λ (z : ℤ). noted (next_item m.home (state_of m) item.Number 4 z) c.args.items.now) (to_z-of_z w128 c.from.result fits ∙ c.from.ensures) in
    let same : g.L.Ledger.number c.reserve.new.steps ≡ g.L.Ledger.number c.note.new.steps = ap g.L.Ledger.number c.in_err-cell.ensures.idle in
    let counted : g.L.Ledger.number c.note.new.steps ≡ g.L.Ledger.number c.args.steps.now + 1 = c.in_ok-note.ensures.ticks in
    stopped_at_cell x (done_after 4 (new_cell c.args.to.class c.args.to.to c.args.to.run (state_of m))) c.args.items.now c.note.new.items
    (g.L.Ledger.number c.args.steps.now) (g.L.Ledger.number c.reserve.new.steps) m.cells m.cells
    c.from_residual-in_err-cell.result fault.Memory c.from_residual-in_err-cell.ensures.1 refl logged (omega (arith, same, counted))
    (cells_after m c.args.to.class c.args.to.to c.args.to.run)

pub returns-in_err-owe-clause-noted : goal.returns-in_err-owe-clause-noted
returns-in_err-owe-clause-noted g c =
    let m = c.args.machine.now in
    let x = next_item m.home (state_of m) item.Number 4 (pos c.args.number) in
    let fits : SFits w128 c.from.result = search rules in
    let logged = c.in_ok-note.ensures.ok ∙ ap (λ (z : ℤ). noted (next_item m.home (state_of m) item.Number 4 z) c.args.items.now) (to_z-of_z w128 c.from.result fits ∙ c.from.ensures) in
    let more : g.L.Ledger.number c.reserve.new.steps ≡ g.L.Ledger.number c.note.new.steps + 1 = c.in_ok-cell.ensures.tick in
    let counted : g.L.Ledger.number c.note.new.steps ≡ g.L.Ledger.number c.args.steps.now + 1 = c.in_ok-note.ensures.ticks in
    let t = owing c.args.to.class c.args.to.to c.args.to.run (Some c.in_ok-cell.cell.0) (with_builder c.reserve.new.self (state_of m)) in
    stopped_at_cell x (done_after 4 (new_cell c.args.to.class c.args.to.to c.args.to.run (state_of m))) c.args.items.now c.note.new.items
    (g.L.Ledger.number c.args.steps.now) (g.L.Ledger.number c.reserve.new.steps) m.cells c.owe.new.machine.cells
    c.from_residual-in_err-owe.result c.in_err-owe.field-0.0 c.from_residual-in_err-owe.ensures.1
    (goes_memory t (state_of c.owe.new.machine) (Err c.in_err-owe.field-0.0) c.in_err-owe.ensures.does) logged (omega (arith, more, counted))
    (cells_after m c.args.to.class c.args.to.to c.args.to.run)

pub returns-clause-noted : goal.returns-clause-noted
returns-clause-noted g c =
    let m = c.args.machine.now in
    let s = state_of m in
    let x = next_item m.home s item.Number 4 (pos c.args.number) in
    let fits : SFits w128 c.from.result = search rules in
    let logged = c.in_ok-note.ensures.ok ∙ ap (λ (z : ℤ). noted (next_item m.home (state_of m) item.Number 4 z) c.args.items.now) (to_z-of_z w128 c.from.result fits ∙ c.from.ensures) in
    let more : g.L.Ledger.number c.reserve.new.steps ≡ g.L.Ledger.number c.note.new.steps + 1 = c.in_ok-cell.ensures.tick in
    let counted : g.L.Ledger.number c.note.new.steps ≡ g.L.Ledger.number c.args.steps.now + 1 = c.in_ok-note.ensures.ticks in
    one_with_cell x c.args.items.now c.note.new.items (g.L.Ledger.number c.args.steps.now) (g.L.Ledger.number c.reserve.new.steps) m.cells c.pass.new.self.cells
    logged (more ∙ ap (λ (n : ℕ). n + 1) counted)
    (one_cell_more m c.pass.new.self c.args.to.class c.args.to.to c.args.to.run
    (new_is s (with_builder c.reserve.new.self s) (state_of c.owe.new.machine) (state_of c.pass.new.self) c.args.to.class c.args.to.to c.args.to.run c.in_ok-cell.cell
    (reserved_is s m.builder c.reserve.new.self c.args.to.to.0 c.in_ok-cell.ensures.ok refl refl) (next_cell m c.in_ok-cell.cell.0 c.in_ok-cell.ensures.cell)
    c.in_ok-owe.ensures.does c.pass.ensures.is))

pub returns-clause-outside : goal.returns-clause-outside
returns-clause-outside g c =
    let m = c.args.machine.now in
    c.pass.ensures.outside ∙ c.in_ok-owe.ensures.outside ∙ outside_stays m.home m.builder c.reserve.new.self c.args.to.to.0 c.in_ok-cell.ensures.ok
