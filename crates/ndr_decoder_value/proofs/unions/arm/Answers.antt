use Rattle.std.proofs.Common.{rules, ℤ, ◌∙◌, ℕ, Some, not, eqb, length, refl, ap, sym, subst}
use mir.Val.{SFits}
use mir.Syntax.{w128}
use Rattle.std.proofs.lemmas.Int.{to_z-of_z}
use Rattle.nd_types.specs.Table.{width}
use Rattle.nd_flat.specs.FlatForm.{armed_count}
use Rattle.nd_value.specs.Logged.{noted}
use Rattle.nd_value.specs.Tree as tree
use Rattle.nd_value.specs.declared.item.ItemKind.TheVariants as item
use Rattle.ndr_decoder_laws.specs.steps.StepItems.{next_item}
use Rattle.ndr_decoder_laws.specs.steps.Steps.{State, goes, arm_taken, past, with_node}
use Rattle.ndr_decoder_state.specs.Seen.{state_of, Does}
use Rattle.ndr_decoder_value.specs.Parts.{arm_entered}
use Rattle.ndr_decoder_value.proofs.Noting.{cell_count, noted_by_result, stopped_after}
use Rattle.ndr_decoder_value.proofs.Tagged.{arm_is, arm_cells}
use Rattle.ndr_decoder_value.proofs.unions.arm.Goals as goal

pub returns-in_err-add-clause-noted : goal.returns-in_err-add-clause-noted
returns-in_err-add-clause-noted g c =
    let m = c.args.machine.now in
    let s = state_of m in
    let fits : SFits w128 m.tag = search rules in
    let logged =
    c.in_ok-note.ensures.ok ∙ ap (λ (z : ℤ). noted (next_item m.home s item.Tag c.width_of-len.result z) c.args.items.now) (to_z-of_z w128 m.tag fits)
    ∙ ap (λ (n : ℕ). noted (next_item m.home s item.Tag n m.tag) c.args.items.now) c.width_of-len.ensures.value in
    stopped_after (next_item m.home s item.Tag (width m.carrier) m.tag) (arm_taken (eqb c.args.run 0) c.args.run s)
    c.args.items.now c.note.new.items (g.L.Ledger.number c.args.steps.now) (g.L.Ledger.number c.note.new.steps) m.cells c.add.new.self.cells
    c.from_residual-in_err-add.result c.in_err-add.field-0.0 c.from_residual-in_err-add.ensures.1 c.in_err-add.ensures.memory
    logged c.in_ok-note.ensures.ticks (ap length (arm_cells (eqb c.args.run 0) c.args.run s) ∙ cell_count m)

pub returns-clause-does : goal.returns-clause-does
returns-clause-does g c =
    let m = c.args.machine.now in
    let s = state_of m in
    let t = state_of c.add.new.self in
    let fits : SFits w128 m.tag = search rules in
    let e = c.in_ok-add.ensures.ok ∙ ap (λ (z : ℤ). with_node (tree.Union z, armed_count (not (eqb c.args.run 0))) (Some m.at) s) (to_z-of_z w128 m.tag fits) in
    let is =
    arm_is c.args.run (not (eqb c.args.run 0)) s t t.phase refl e
    ∙ ap (λ (n : ℕ). arm_entered c.args.run (past n t.phase t)) (sym c.width_of-len.ensures.value) in
    subst (λ (q : State). Does (goes q) c.enter_arm.result (state_of c.enter_arm.new.machine)) (sym is) c.enter_arm.ensures.does

pub returns-clause-noted : goal.returns-clause-noted
returns-clause-noted g c =
    let m = c.args.machine.now in
    let s = state_of m in
    let fits : SFits w128 m.tag = search rules in
    let logged =
    c.in_ok-note.ensures.ok ∙ ap (λ (z : ℤ). noted (next_item m.home s item.Tag c.width_of-len.result z) c.args.items.now) (to_z-of_z w128 m.tag fits)
    ∙ ap (λ (n : ℕ). noted (next_item m.home s item.Tag n m.tag) c.args.items.now) c.width_of-len.ensures.value in
    noted_by_result (next_item m.home s item.Tag (width m.carrier) m.tag) (arm_taken (eqb c.args.run 0) c.args.run s) (state_of c.enter_arm.new.machine)
    c.args.items.now c.note.new.items (g.L.Ledger.number c.args.steps.now) (g.L.Ledger.number c.note.new.steps) m.cells c.enter_arm.new.machine.cells
    c.enter_arm.result (returns-clause-does g c) logged c.in_ok-note.ensures.ticks
    (ap length (arm_cells (eqb c.args.run 0) c.args.run s) ∙ cell_count m) (cell_count c.enter_arm.new.machine)
