use mir.Val.{SFits}
use mir.Syntax.{w128}
use Rattle.std.proofs.lemmas.Int.{to_z-of_z}
use Rattle.nd_value.specs.Logged.{noted}
use Rattle.std.proofs.Common.{rules, ℤ, ◌∙◌, ◌∷◌, [], ap, sym, pos, Err}
use Rattle.nd_value.specs.declared.item.ItemKind.TheVariants as item
use Rattle.nd_value.specs.Seen.{cell_number}
use Rattle.ndr_decoder_laws.specs.steps.StepItems.{next_item}
use Rattle.ndr_decoder_laws.specs.steps.Steps.{State, goes, done_after, owing}
use Rattle.ndr_decoder_state.specs.Seen.{state_of}
use Rattle.ndr_decoder_value.proofs.Noting.{cell_count, same_cells, goes_memory, one_noted, stopped_before, stopped_after}
use Rattle.ndr_decoder_value.proofs.Owing.{same_goes}
use Rattle.ndr_decoder_value.proofs.pointers.name.Goals as goal

pub returns-clause-does : goal.returns-clause-does
returns-clause-does g c =
    ap (λ (q : State). goes (done_after 4 q))
    (same_goes (owing c.args.to.class c.args.to.to c.args.to.run (cell_number c.args.cell) (state_of c.args.machine.now)) (state_of c.owe.new.machine) c.in_ok-owe.ensures.does)
    ∙ ap goes (sym c.pass.ensures.is)

pub returns-in_err-note-clause-noted : goal.returns-in_err-note-clause-noted
returns-in_err-note-clause-noted g c =
    let m = c.args.machine.now in
    let x = next_item m.home (state_of m) item.Number 4 (pos c.args.number) in
    stopped_before (goes (done_after 4 (owing c.args.to.class c.args.to.to c.args.to.run (cell_number c.args.cell) (state_of m)))) (x ∷ [])
    c.args.items.now c.note.new.items (g.L.Ledger.number c.args.steps.now) (g.L.Ledger.number c.note.new.steps) m.cells m.cells
    c.from_residual.result c.in_err-note.field-0.0 c.from_residual.ensures.1 c.in_err-note.ensures.memory c.in_err-note.ensures.err
    (ap g.L.Ledger.number c.in_err-note.ensures.idle)

pub returns-in_err-owe-clause-noted : goal.returns-in_err-owe-clause-noted
returns-in_err-owe-clause-noted g c =
    let m = c.args.machine.now in
    let x = next_item m.home (state_of m) item.Number 4 (pos c.args.number) in
    let fits : SFits w128 c.from.result = search rules in
    let logged = c.in_ok-note.ensures.ok ∙ ap (λ (z : ℤ). noted (next_item m.home (state_of m) item.Number 4 z) c.args.items.now) (to_z-of_z w128 c.from.result fits ∙ c.from.ensures) in
    let t = owing c.args.to.class c.args.to.to c.args.to.run (cell_number c.args.cell) (state_of m) in
    stopped_after x (done_after 4 t) c.args.items.now c.note.new.items (g.L.Ledger.number c.args.steps.now) (g.L.Ledger.number c.note.new.steps)
    m.cells c.owe.new.machine.cells c.from_residual-in_err-owe.result c.in_err-owe.field-0.0 c.from_residual-in_err-owe.ensures.1
    (goes_memory t (state_of c.owe.new.machine) (Err c.in_err-owe.field-0.0) c.in_err-owe.ensures.does) logged c.in_ok-note.ensures.ticks (cell_count m)

pub returns-clause-noted : goal.returns-clause-noted
returns-clause-noted g c =
    let m = c.args.machine.now in
    let x = next_item m.home (state_of m) item.Number 4 (pos c.args.number) in
    let fits : SFits w128 c.from.result = search rules in
    let logged = c.in_ok-note.ensures.ok ∙ ap (λ (z : ℤ). noted (next_item m.home (state_of m) item.Number 4 z) c.args.items.now) (to_z-of_z w128 c.from.result fits ∙ c.from.ensures) in
    let t = owing c.args.to.class c.args.to.to c.args.to.run (cell_number c.args.cell) (state_of m) in
    one_noted x c.args.items.now c.note.new.items (g.L.Ledger.number c.args.steps.now) (g.L.Ledger.number c.note.new.steps) m.cells c.pass.new.self.cells
    logged c.in_ok-note.ensures.ticks
    (same_cells m c.pass.new.self
    (ap (λ (s : State). s.cells) (c.pass.ensures.is ∙ sym (ap (done_after 4) (same_goes t (state_of c.owe.new.machine) c.in_ok-owe.ensures.does)))))
