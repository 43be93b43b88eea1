use Rattle.std.proofs.Common.{◌≡◌, ◌<◌, ◌≤◌, ◌^◌, ◌+◌, [], ap, arith}
use Rattle.ndr_code.specs.declared.instr.Instr.TheVariants as op
use Rattle.ndr_decoder_laws.specs.runs.Reaching.{begins, IsSafe}
use Rattle.ndr_decoder_state.specs.Seen.{state_of}
use Rattle.ndr_decoder_laws.specs.steps.Steps.{State}
use Rattle.ndr_decoder_fast.proofs.StringSteps.{string_leapt, string_failed, few_more}
use Rattle.ndr_decoder_fast.proofs.ElementsTaken.{address_fits}
use Rattle.ndr_decoder_fast.proofs.strings.leap_string.Goals as goal

pub string_ahead-requires-clause-within : goal.string_ahead-requires-clause-within
string_ahead-requires-clause-within g c =
    let safe : IsSafe c.args.code.now (state_of c.args.machine.now) = c.requires.safe [] [] (state_of c.args.machine.now) begins in safe.within

pub leap_offset-requires-clause-code : goal.leap_offset-requires-clause-code
leap_offset-requires-clause-code g c =
    let run = c.in-Some.ahead.run in
    let fits : run + 1 < 2 ^ 32 = address_fits c.args.code.now (run + 1) (op.Text c.in-Some.ahead.bound) c.in-Some.ensures.reads c.requires.short in
    let pc : c.pass_maximum.new.machine.pc ≡ run + 1 = ap (λ (s : State). s.pc) c.pass_maximum.ensures.is in
    omega (arith, fits, pc)

pub leap_offset-requires-clause-few : goal.leap_offset-requires-clause-few
leap_offset-requires-clause-few g c =
    few_more c.args.code.now c.args.machine.now c.pass_maximum.new.machine (c.requires.safe [] [] (state_of c.args.machine.now) begins)
    (ap (λ (s : State). s.nodes) c.pass_maximum.ensures.is)

pub returns-in_err-leap_offset-clause-leaps : goal.returns-in_err-leap_offset-clause-leaps
returns-in_err-leap_offset-clause-leaps g c =
    let m = c.args.machine.now in
    let few : c.gap_before-gap.result ≤ 4 = omega (arith, c.gap_before-gap.ensures.is) in
    string_failed c.args.values.now c.args.order c.args.code.now m.home (g.S.Source.seen c.args.source.now).left (g.S.Source.seen c.take_maximum.new.source).left
    (g.S.Source.seen c.take_maximum.new.source).ended (g.S.Source.seen c.args.source.now).faults (g.S.Source.seen c.take_maximum.new.source).faults c.in-Some.ahead.run c.in-Some.ahead.bound
    c.gap_before-gap.result c.in-Some-take_maximum.max (state_of m) c.requires.here c.in-Some.ensures c.gap_before-gap.ensures.is few c.in-Some-take_maximum.ensures.came
    (g.S.Source.seen c.leap_offset.new.source).left (g.S.Source.seen c.leap_offset.new.source).ended (g.S.Source.seen c.leap_offset.new.source).faults (g.L.Ledger.number c.args.steps.now)
    (g.L.Ledger.number c.tick.new.self) (g.L.Ledger.number c.leap_offset.new.steps) (state_of c.pass_maximum.new.machine) (state_of c.leap_offset.new.machine) c.tick.ensures
    c.pass_maximum.ensures.is c.in_err-leap_offset.field-0.0 c.from_residual.result c.in_err-leap_offset.ensures.reads c.from_residual.ensures.1

pub returns-clause-leaps : goal.returns-clause-leaps
returns-clause-leaps g c =
    let m = c.args.machine.now in
    let few : c.gap_before-gap.result ≤ 4 = omega (arith, c.gap_before-gap.ensures.is) in
    string_leapt c.args.values.now c.args.order c.args.code.now m.home (g.S.Source.seen c.args.source.now).left (g.S.Source.seen c.take_maximum.new.source).left
    (g.S.Source.seen c.take_maximum.new.source).ended (g.S.Source.seen c.args.source.now).faults (g.S.Source.seen c.take_maximum.new.source).faults c.in-Some.ahead.run c.in-Some.ahead.bound
    c.gap_before-gap.result c.in-Some-take_maximum.max (state_of m) c.requires.here c.in-Some.ensures c.gap_before-gap.ensures.is few c.in-Some-take_maximum.ensures.came
    (g.S.Source.seen c.leap_offset.new.source).left (g.S.Source.seen c.leap_offset.new.source).ended (g.S.Source.seen c.leap_offset.new.source).faults (g.L.Ledger.number c.args.steps.now)
    (g.L.Ledger.number c.tick.new.self) (g.L.Ledger.number c.leap_offset.new.steps) (state_of c.pass_maximum.new.machine) (state_of c.leap_offset.new.machine) c.tick.ensures
    c.pass_maximum.ensures.is c.in_ok-leap_offset.field-0 c.in_ok-leap_offset.ensures.reads
