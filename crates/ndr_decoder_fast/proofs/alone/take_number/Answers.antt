use Rattle.std.proofs.Common.{◌≡◌, ◌≤◌, ◌-◌, ◌∙◌, None, length, refl, ap, arith, rules}
use Rattle.nd_base.specs.declared.TheConstants.{STREAM_LIMIT}
use Rattle.nd_types.specs.Number.{value_of_octets}
use Rattle.nd_types.specs.Table.{width}
use Rattle.nd_types.specs.declared.types.Primitive.{Primitive}
use Rattle.nd_value.specs.Tree as tree
use Rattle.ndr_code.specs.Fields.{prim_of}
use Rattle.ndr_code.specs.declared.instr.Instr.TheVariants as op
use Rattle.ndr_decoder_laws.specs.steps.Steps.{State, done_after, with_node}
use Rattle.ndr_decoder_state.specs.Seen.{state_of}
use Rattle.ndr_decoder_fast.proofs.OneStep.{nothing_taken, number_taken, step_stopped}
use Rattle.ndr_decoder_fast.proofs.alone.take_number.Goals as goal

pub returns-then-left-lt-MOST-clause-takes : goal.returns-then-left-lt-MOST-clause-takes
returns-then-left-lt-MOST-clause-takes g c =
    nothing_taken c.args.order (g.S.Source.seen c.args.source.now).left (g.S.Source.seen c.args.source.now).left (g.S.Source.seen c.args.source.now).ended (g.S.Source.seen c.args.source.now).faults
    (g.S.Source.seen c.args.source.now).faults (g.L.Ledger.number c.args.steps.now) (g.L.Ledger.number c.args.steps.now) (state_of c.args.machine.now) (state_of c.args.machine.now)
    (op.Num c.args.of) refl refl refl

pub returns-then-not-at_hand-clause-takes : goal.returns-then-not-at_hand-clause-takes
returns-then-not-at_hand-clause-takes g c =
    nothing_taken c.args.order (g.S.Source.seen c.args.source.now).left (g.S.Source.seen c.at_hand.new.source).left (g.S.Source.seen c.at_hand.new.source).ended
    (g.S.Source.seen c.args.source.now).faults
    (g.S.Source.seen c.at_hand.new.source).faults (g.L.Ledger.number c.args.steps.now) (g.L.Ledger.number c.args.steps.now) (state_of c.args.machine.now) (state_of c.args.machine.now)
    (op.Num c.args.of) refl
    (c.if-not-at_hand.ensures.nothing refl) refl

pub returns-in_err-add_number-clause-takes : goal.returns-in_err-add_number-clause-takes
returns-in_err-add_number-clause-takes g c =
    step_stopped c.args.order (g.S.Source.seen c.args.source.now).left (g.S.Source.seen c.at_hand.new.source).left (g.S.Source.seen c.at_hand.new.source).ended
    (g.S.Source.seen c.args.source.now).faults
    (g.S.Source.seen c.at_hand.new.source).faults (g.L.Ledger.number c.args.steps.now) (g.L.Ledger.number c.args.steps.now) (state_of c.args.machine.now) (state_of c.add_number.new.machine)
    (op.Num c.args.of)
    c.at_hand.new.octets (c.if-not-at_hand.ensures.came refl) refl c.in_err-add_number.field-0.0 c.from_residual.result c.from_residual.ensures.1

pub returns-clause-takes : goal.returns-clause-takes
returns-clause-takes g c =
    let m = c.args.machine.now in
    let os = c.at_hand.new.octets in
    let prim : c.prim_of-prim.result ≡ prim_of c.args.of.0 = c.prim_of-prim.ensures in
    let is_wide : c.form_width-wide.result ≡ width c.prim_of-prim.result = c.form_width-wide.ensures.is in
    let came : length os ≡ c.form_width-wide.result = search rules in
    let size : length os ≡ width (prim_of c.args.of.0) = came ∙ is_wide ∙ ap width prim in
    let few : c.form_width-wide.result ≤ 8 = c.form_width-wide.ensures.few in
    let left : 8 ≤ STREAM_LIMIT - m.at = omega (arith, c.if-left-lt-MOST.false) in
    number_taken c.args.order (g.S.Source.seen c.args.source.now).left (g.S.Source.seen c.at_hand.new.source).left (g.S.Source.seen c.at_hand.new.source).ended
    (g.S.Source.seen c.args.source.now).faults
    (g.S.Source.seen c.at_hand.new.source).faults (g.L.Ledger.number c.args.steps.now) (g.L.Ledger.number c.tick.new.self) (state_of m) (state_of c.pass.new.self) c.args.of os
    (c.if-not-at_hand.ensures.came refl) size (omega (arith, came, few, left))
    (c.pass.ensures.is ∙ ap (λ k. done_after k (state_of c.add_number.new.machine)) (is_wide ∙ ap width prim)
    ∙ ap (λ (s : State). done_after (width (prim_of c.args.of.0)) s) c.in_ok-add_number.ensures.ok
    ∙ ap (λ (p : Primitive). done_after (width (prim_of c.args.of.0)) (with_node (tree.Num (value_of_octets c.args.order p os), 0) None (state_of m))) prim)
    c.tick.ensures
