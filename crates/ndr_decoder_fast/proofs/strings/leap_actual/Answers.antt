use Rattle.std.proofs.Common.{◌≤◌, ◌<◌, ◌+◌, subst, arith}
use Rattle.nd_base.specs.declared.TheConstants.{STREAM_LIMIT}
use Rattle.ndr_decoder_laws.specs.steps.Steps.{limit_of}
use Rattle.ndr_decoder_state.specs.Seen.{state_of}
use Rattle.ndr_decoder_fast.proofs.TextSteps.{nothing_read, actual_empty, actual_past, actual_passed}
use Rattle.ndr_decoder_fast.proofs.strings.leap_actual.Goals as goal

pub returns-in_default-clause-reads : goal.returns-in_default-clause-reads
returns-in_default-clause-reads g c =
    nothing_read c.args.order c.args.bound (g.S.Source.seen c.args.source.now).left (g.S.Source.seen c.take_count.new.source).left (g.S.Source.seen c.take_count.new.source).ended
    (g.S.Source.seen c.args.source.now).faults (g.S.Source.seen c.take_count.new.source).faults (state_of c.args.machine.now) (g.L.Ledger.number c.args.steps.now) tt c.in_default.ensures.nothing

pub returns-then-count-eq0-clause-reads : goal.returns-then-count-eq0-clause-reads
returns-then-count-eq0-clause-reads g c =
    let within : c.args.machine.now.at + 4 ≤ STREAM_LIMIT = omega (arith, c.requires.within) in
    actual_empty c.args.order c.args.bound (g.S.Source.seen c.args.source.now).left (g.S.Source.seen c.take_count.new.source).left (g.S.Source.seen c.take_count.new.source).ended
    (g.S.Source.seen c.args.source.now).faults (g.S.Source.seen c.take_count.new.source).faults (state_of c.args.machine.now) c.in-Some.count c.requires.offset within c.in-Some.ensures.came
    (g.L.Ledger.number c.args.steps.now) (state_of c.args.machine.now) c.if-count-eq0.true

pub returns-then-limit-count-clause-reads : goal.returns-then-limit-count-clause-reads
returns-then-limit-count-clause-reads g c =
    let within : c.args.machine.now.at + 4 ≤ STREAM_LIMIT = omega (arith, c.requires.within) in
    let over : limit_of c.args.bound (state_of c.args.machine.now) < c.in-Some.count = subst (λ k. k < c.in-Some.count) c.limit-limit.ensures (omega arith) in
    actual_past c.args.order c.args.bound (g.S.Source.seen c.args.source.now).left (g.S.Source.seen c.take_count.new.source).left (g.S.Source.seen c.take_count.new.source).ended
    (g.S.Source.seen c.args.source.now).faults (g.S.Source.seen c.take_count.new.source).faults (state_of c.args.machine.now) c.in-Some.count c.requires.offset within c.in-Some.ensures.came
    (g.L.Ledger.number c.args.steps.now) (state_of c.args.machine.now) c.if-count-eq0.false over

pub returns-clause-reads : goal.returns-clause-reads
returns-clause-reads g c =
    let within : c.args.machine.now.at + 4 ≤ STREAM_LIMIT = omega (arith, c.requires.within) in
    let few : c.in-Some.count ≤ limit_of c.args.bound (state_of c.args.machine.now) = subst (λ k. c.in-Some.count ≤ k) c.limit-limit.ensures (omega arith) in
    actual_passed c.args.order c.args.bound (g.S.Source.seen c.args.source.now).left (g.S.Source.seen c.take_count.new.source).left (g.S.Source.seen c.take_count.new.source).ended
    (g.S.Source.seen c.args.source.now).faults (g.S.Source.seen c.take_count.new.source).faults (state_of c.args.machine.now) c.in-Some.count c.requires.offset within c.in-Some.ensures.came
    (g.S.Source.seen c.leap_octets.new.source).left (g.S.Source.seen c.leap_octets.new.source).ended (g.S.Source.seen c.leap_octets.new.source).faults (g.L.Ledger.number c.args.steps.now)
    (g.L.Ledger.number c.tick.new.self) (g.L.Ledger.number c.leap_octets.new.steps) (state_of c.pass_count.new.machine) (state_of c.leap_octets.new.machine) c.leap_octets.result
    c.if-count-eq0.false few c.tick.ensures c.pass_count.ensures.is c.leap_octets.ensures.reads
