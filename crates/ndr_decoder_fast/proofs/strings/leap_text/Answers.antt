use Rattle.std.proofs.Common.{◌≡◌, ◌≤◌, ◌+◌, length, refl, arith}
use Rattle.nd_base.specs.declared.TheConstants.{STREAM_LIMIT}
use Rattle.ndr_decoder_state.specs.Seen.{state_of}
use Rattle.ndr_decoder_fast.proofs.TextSteps.{nothing_read, octets_read, octets_failed}
use Rattle.ndr_decoder_fast.proofs.strings.leap_text.Goals as goal

pub returns-then-not-at_hand-clause-reads : goal.returns-then-not-at_hand-clause-reads
returns-then-not-at_hand-clause-reads g c =
    nothing_read c.args.order c.args.bound (g.S.Source.seen c.args.source.now).left (g.S.Source.seen c.at_hand.new.source).left (g.S.Source.seen c.at_hand.new.source).ended
    (g.S.Source.seen c.args.source.now).faults (g.S.Source.seen c.at_hand.new.source).faults (state_of c.args.machine.now) (g.L.Ledger.number c.args.steps.now) tt
    (c.if-not-at_hand.ensures.nothing refl)

pub returns-in_err-add_text-clause-reads : goal.returns-in_err-add_text-clause-reads
returns-in_err-add_text-clause-reads g c =
    let size : length c.at_hand.new.octets ≡ length c.args.text.now = c.at_hand.ensures.wide in
    let within : c.args.machine.now.at + length c.at_hand.new.octets ≤ STREAM_LIMIT = omega (arith, size, c.requires.within) in
    octets_failed c.args.order c.args.bound (g.S.Source.seen c.args.source.now).left (g.S.Source.seen c.at_hand.new.source).left (g.S.Source.seen c.at_hand.new.source).ended
    (g.S.Source.seen c.args.source.now).faults (g.S.Source.seen c.at_hand.new.source).faults (state_of c.args.machine.now) (length c.args.text.now) c.requires.counted c.requires.some
    c.at_hand.new.octets
    size within (c.if-not-at_hand.ensures.came refl) (g.L.Ledger.number c.args.steps.now) (state_of c.add_text.new.machine) c.in_err-add_text.field-0.0 c.from_residual.result
    c.in_err-add_text.ensures.does c.from_residual.ensures.1

pub returns-clause-reads : goal.returns-clause-reads
returns-clause-reads g c =
    let size : length c.at_hand.new.octets ≡ length c.args.text.now = c.at_hand.ensures.wide in
    let within : c.args.machine.now.at + length c.at_hand.new.octets ≤ STREAM_LIMIT = omega (arith, size, c.requires.within) in
    octets_read c.args.order c.args.bound (g.S.Source.seen c.args.source.now).left (g.S.Source.seen c.at_hand.new.source).left (g.S.Source.seen c.at_hand.new.source).ended
    (g.S.Source.seen c.args.source.now).faults (g.S.Source.seen c.at_hand.new.source).faults (state_of c.args.machine.now) (length c.args.text.now) c.requires.counted c.requires.some
    c.at_hand.new.octets
    size within (c.if-not-at_hand.ensures.came refl) (g.L.Ledger.number c.args.steps.now) (g.L.Ledger.number c.tick.new.self) (state_of c.add_text.new.machine) tt
    c.in_ok-add_text.field-0 c.tick.ensures c.in_ok-add_text.ensures.does
