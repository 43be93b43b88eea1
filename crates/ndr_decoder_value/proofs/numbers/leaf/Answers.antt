use Rattle.std.proofs.Common.{rules, ℤ, ◌<◌, ◌+◌, ◌^◌, ◌∙◌, ◌∷◌, [], ℕ, None, ap, subst, sym}
use mir.Val.{SFits}
use mir.Syntax.{w128}
use Rattle.std.proofs.lemmas.Int.{to_z-of_z}
use Rattle.nd_value.specs.Logged.{noted}
use Rattle.nd_value.specs.Tree as tree
use Rattle.nd_value.specs.declared.item.ItemKind.TheVariants as item
use Rattle.ndr_decoder_laws.specs.steps.StepItems.{next_item}
use Rattle.ndr_decoder_laws.specs.steps.Steps.{State, goes, done_after, with_node}
use Rattle.ndr_decoder_state.specs.Seen.{state_of}
use Rattle.ndr_decoder_value.proofs.Noting.{cell_count, same_cells, one_noted, stopped_before, stopped_after}
use Rattle.ndr_decoder_value.proofs.numbers.leaf.Goals as goal

pub pass-requires : goal.pass-requires
pass-requires g c = record {
  code = subst (λ (n : ℕ). n < 2 ^ 32) (sym (ap (λ (s : State). s.pc) c.in_ok-add.ensures.ok)) c.requires.code;
  few = subst (λ (n : ℕ). n + c.args.len < 2 ^ 32) (sym (ap (λ (s : State). s.at) c.in_ok-add.ensures.ok)) c.requires.fits;
}

pub returns-in_err-note-clause-noted : goal.returns-in_err-note-clause-noted
returns-in_err-note-clause-noted g c =
    let m = c.args.machine.now in
    stopped_before (goes (done_after c.args.len (with_node (tree.Num c.args.value, 0) None (state_of m)))) (next_item m.home (state_of m) item.Num c.args.len c.args.value ∷ [])
    c.args.items.now c.note.new.items (g.L.Ledger.number c.args.steps.now) (g.L.Ledger.number c.note.new.steps) m.cells m.cells
    c.from_residual.result c.in_err-note.field-0.0 c.from_residual.ensures.1 c.in_err-note.ensures.memory c.in_err-note.ensures.err
    (ap g.L.Ledger.number c.in_err-note.ensures.idle)

pub returns-in_err-add-clause-noted : goal.returns-in_err-add-clause-noted
returns-in_err-add-clause-noted g c =
    let m = c.args.machine.now in
    let fits : SFits w128 c.args.value = search rules in
    let logged = c.in_ok-note.ensures.ok ∙ ap (λ (z : ℤ). noted (next_item m.home (state_of m) item.Num c.args.len z) c.args.items.now) (to_z-of_z w128 c.args.value fits) in
    stopped_after (next_item m.home (state_of m) item.Num c.args.len c.args.value) (done_after c.args.len (with_node (tree.Num c.args.value, 0) None (state_of m)))
    c.args.items.now c.note.new.items (g.L.Ledger.number c.args.steps.now) (g.L.Ledger.number c.note.new.steps) m.cells c.add.new.self.cells
    c.from_residual-in_err-add.result c.in_err-add.field-0.0 c.from_residual-in_err-add.ensures.1 c.in_err-add.ensures.memory
    logged c.in_ok-note.ensures.ticks (cell_count m)

pub returns-clause-noted : goal.returns-clause-noted
returns-clause-noted g c =
    let m = c.args.machine.now in
    let fits : SFits w128 c.args.value = search rules in
    let logged = c.in_ok-note.ensures.ok ∙ ap (λ (z : ℤ). noted (next_item m.home (state_of m) item.Num c.args.len z) c.args.items.now) (to_z-of_z w128 c.args.value fits) in
    one_noted (next_item m.home (state_of m) item.Num c.args.len c.args.value) c.args.items.now c.note.new.items
    (g.L.Ledger.number c.args.steps.now) (g.L.Ledger.number c.note.new.steps) m.cells c.pass.new.self.cells logged c.in_ok-note.ensures.ticks
    (same_cells m c.pass.new.self (ap (λ (s : State). s.cells) (c.pass.ensures.is ∙ ap (done_after c.args.len) c.in_ok-add.ensures.ok)))
