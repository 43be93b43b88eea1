use Rattle.std.proofs.Common.{◌≤◌, ◌+◌, arith}
use Rattle.nd_base.specs.declared.TheConstants.{STREAM_LIMIT}
use Rattle.ndr_decoder_state.specs.Seen.{state_of}
use Rattle.ndr_decoder_fast.proofs.TextSteps.{nothing_read, offset_refused, offset_passed}
use Rattle.ndr_decoder_fast.proofs.strings.leap_offset.Goals as goal

pub returns-in_default-clause-reads : goal.returns-in_default-clause-reads
returns-in_default-clause-reads g c =
    nothing_read c.args.order c.args.bound (g.S.Source.seen c.args.source.now).left (g.S.Source.seen c.take_count.new.source).left (g.S.Source.seen c.take_count.new.source).ended
    (g.S.Source.seen c.args.source.now).faults (g.S.Source.seen c.take_count.new.source).faults (state_of c.args.machine.now) (g.L.Ledger.number c.args.steps.now) tt c.in_default.ensures.nothing

pub returns-then-offset-ne0-clause-reads : goal.returns-then-offset-ne0-clause-reads
returns-then-offset-ne0-clause-reads g c =
    let within : c.args.machine.now.at + 4 ≤ STREAM_LIMIT = omega (arith, c.requires.within) in
    offset_refused c.args.order c.args.bound (g.S.Source.seen c.args.source.now).left (g.S.Source.seen c.take_count.new.source).left (g.S.Source.seen c.take_count.new.source).ended
    (g.S.Source.seen c.args.source.now).faults (g.S.Source.seen c.take_count.new.source).faults (state_of c.args.machine.now) c.in-Some.offset c.requires.first within c.in-Some.ensures.came
    (g.L.Ledger.number c.args.steps.now) (state_of c.args.machine.now) c.if-offset-ne0.true

pub returns-clause-reads : goal.returns-clause-reads
returns-clause-reads g c =
    let within : c.args.machine.now.at + 4 ≤ STREAM_LIMIT = omega (arith, c.requires.within) in
    offset_passed c.args.order c.args.bound (g.S.Source.seen c.args.source.now).left (g.S.Source.seen c.take_count.new.source).left (g.S.Source.seen c.take_count.new.source).ended
    (g.S.Source.seen c.args.source.now).faults (g.S.Source.seen c.take_count.new.source).faults (state_of c.args.machine.now) c.in-Some.offset c.requires.first within c.in-Some.ensures.came
    (g.S.Source.seen c.leap_actual.new.source).left (g.S.Source.seen c.leap_actual.new.source).ended (g.S.Source.seen c.leap_actual.new.source).faults (g.L.Ledger.number c.args.steps.now)
    (g.L.Ledger.number c.tick.new.self) (g.L.Ledger.number c.leap_actual.new.steps) (state_of c.pass_count.new.machine) (state_of c.leap_actual.new.machine) c.leap_actual.result
    c.if-offset-ne0.false c.tick.ensures c.pass_count.ensures.is c.leap_actual.ensures.reads
