use Rattle.nd_base.specs.Over.{source_over}
use Rattle.ndr_decoder_state.specs.Seen.{state_of}
use Rattle.ndr_decoder_fast.proofs.StructReading.{leap_stopped, leaps_on}
use Rattle.ndr_decoder_fast.proofs.structs.leap_struct.Goals as goal

pub returns-in_err-leapt-clause-leaps : goal.returns-in_err-leapt-clause-leaps
returns-in_err-leapt-clause-leaps g c =
    let m = c.args.machine.now in
    leap_stopped c.args.values.now c.args.order c.args.code.now m.home (state_of m)
    (source_over g.S.Source.seen c.args.source.now c.try_struct.new.source) (g.L.Ledger.number c.args.steps.now)
    (g.L.Ledger.number c.try_struct.new.steps) (state_of c.try_struct.new.machine) c.in_err-leapt.field-0.0 c.from_residual.result c.in_err-leapt.ensures.leaps c.from_residual.ensures.1

pub returns-clause-leaps : goal.returns-clause-leaps
returns-clause-leaps g c =
    let m = c.args.machine.now in
    leaps_on c.args.values.now c.args.order c.args.code.now m.home (state_of m)
    (source_over g.S.Source.seen c.args.source.now c.try_struct.new.source) (g.L.Ledger.number c.args.steps.now)
    (g.L.Ledger.number c.try_struct.new.steps) (state_of c.try_struct.new.machine) c.in_ok-leapt.leapt c.in_ok-leapt.ensures.leaps
