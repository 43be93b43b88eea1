use Rattle.std.proofs.Common.{◌≡◌, ◌≤◌, ◌+◌, ◌∙◌, length, refl, ap, arith, rules}
use Rattle.nd_base.specs.declared.TheConstants.{STREAM_LIMIT}
use Rattle.ndr_code.specs.declared.fields.Form.TheVariants as form
use Rattle.ndr_code.specs.declared.instr.Instr.TheVariants as op
use Rattle.ndr_decoder_laws.specs.steps.Steps.{State, done_after}
use Rattle.ndr_decoder_state.specs.Seen.{state_of}
use Rattle.ndr_decoder_fast.specs.Structs.{form_read}
use Rattle.ndr_decoder_fast.proofs.OneStep.{nothing_taken, pointer_taken, pointer_stopped, with_pointer}
use Rattle.ndr_decoder_fast.proofs.alone.take_pointer.Goals as goal

pub returns-then-not-is_alone-clause-takes : goal.returns-then-not-is_alone-clause-takes
returns-then-not-is_alone-clause-takes g c =
    nothing_taken c.args.order (g.S.Source.seen c.args.source.now).left (g.S.Source.seen c.args.source.now).left (g.S.Source.seen c.args.source.now).ended (g.S.Source.seen c.args.source.now).faults
    (g.S.Source.seen c.args.source.now).faults (g.L.Ledger.number c.args.steps.now) (g.L.Ledger.number c.args.steps.now) (state_of c.args.machine.now) (state_of c.args.machine.now)
    (op.Pointer c.args.class c.args.to c.args.run) refl refl refl

pub returns-then-left-lt-MOST-clause-takes : goal.returns-then-left-lt-MOST-clause-takes
returns-then-left-lt-MOST-clause-takes g c =
    nothing_taken c.args.order (g.S.Source.seen c.args.source.now).left (g.S.Source.seen c.args.source.now).left (g.S.Source.seen c.args.source.now).ended (g.S.Source.seen c.args.source.now).faults
    (g.S.Source.seen c.args.source.now).faults (g.L.Ledger.number c.args.steps.now) (g.L.Ledger.number c.args.steps.now) (state_of c.args.machine.now) (state_of c.args.machine.now)
    (op.Pointer c.args.class c.args.to c.args.run) refl refl refl

pub returns-then-not-at_hand-clause-takes : goal.returns-then-not-at_hand-clause-takes
returns-then-not-at_hand-clause-takes g c =
    nothing_taken c.args.order (g.S.Source.seen c.args.source.now).left (g.S.Source.seen c.at_hand.new.source).left (g.S.Source.seen c.at_hand.new.source).ended
    (g.S.Source.seen c.args.source.now).faults
    (g.S.Source.seen c.at_hand.new.source).faults (g.L.Ledger.number c.args.steps.now) (g.L.Ledger.number c.args.steps.now) (state_of c.args.machine.now) (state_of c.args.machine.now)
    (op.Pointer c.args.class c.args.to c.args.run) refl
    (c.if-not-at_hand.ensures.nothing refl) refl

pub returns-in_err-take_form-clause-takes : goal.returns-in_err-take_form-clause-takes
returns-in_err-take_form-clause-takes g c =
    let m = c.args.machine.now in
    let size : length c.at_hand.new.octets ≡ 4 = search rules in
    let fits : m.at + 4 ≤ STREAM_LIMIT = omega (arith, c.if-left-lt-MOST.false) in
    pointer_stopped c.args.order (g.S.Source.seen c.args.source.now).left (g.S.Source.seen c.at_hand.new.source).left (g.S.Source.seen c.at_hand.new.source).ended
    (g.S.Source.seen c.args.source.now).faults
    (g.S.Source.seen c.at_hand.new.source).faults (g.L.Ledger.number c.args.steps.now) (g.L.Ledger.number c.take_form.new.steps) (state_of m) (state_of c.take_form.new.machine)
    c.args.class c.args.to c.args.run c.at_hand.new.octets (c.if-not-at_hand.ensures.came refl) size fits (c.if-not-is_alone.ensures.home refl) (c.if-not-is_alone.ensures.other refl)
    c.in_err-take_form.ensures.idle c.in_err-take_form.field-0.0 c.from_residual.result c.from_residual.ensures.1

pub returns-clause-takes : goal.returns-clause-takes
returns-clause-takes g c =
    let m = c.args.machine.now in
    let size : length c.at_hand.new.octets ≡ 4 = search rules in
    let fits : m.at + 4 ≤ STREAM_LIMIT = omega (arith, c.if-left-lt-MOST.false) in
    let read : State = form_read c.args.order (form.Pointer c.args.class c.args.to c.args.run) c.at_hand.new.octets (state_of m) in
    let is : state_of c.pass.new.self ≡ done_after 4 (with_pointer read) = c.pass.ensures.is ∙ ap (λ (q : State). done_after 4 (with_pointer q)) c.in_ok-take_form.ensures.ok in
    let cells : length (state_of c.pass.new.self).cells ≡ length (state_of c.take_form.new.machine).cells = ap (λ (q : State). length q.cells) c.pass.ensures.is in
    let counted : g.L.Ledger.number c.take_form.new.steps + length (state_of m).cells ≡ g.L.Ledger.number c.args.steps.now + length (state_of c.take_form.new.machine).cells =
    c.in_ok-take_form.ensures.counted in
    let more : g.L.Ledger.number c.tick.new.self ≡ g.L.Ledger.number c.take_form.new.steps + 1 = c.tick.ensures in
    pointer_taken c.args.order (g.S.Source.seen c.args.source.now).left (g.S.Source.seen c.at_hand.new.source).left (g.S.Source.seen c.at_hand.new.source).ended
    (g.S.Source.seen c.args.source.now).faults
    (g.S.Source.seen c.at_hand.new.source).faults (g.L.Ledger.number c.args.steps.now) (g.L.Ledger.number c.tick.new.self) (state_of m) (state_of c.pass.new.self)
    c.args.class c.args.to c.args.run c.at_hand.new.octets (c.if-not-at_hand.ensures.came refl) size fits (c.if-not-is_alone.ensures.home refl) (c.if-not-is_alone.ensures.other refl)
    is (omega (arith, cells, counted, more))
