use Rattle.nd_base.specs.Over.{source_over}
use Rattle.ndr_decoder_state.specs.Seen.{state_of}
use Rattle.ndr_decoder_fast.proofs.ElementsTaken.{address_fits}
use Rattle.ndr_decoder_fast.proofs.OneStep.{few_nodes, few_cells}
use Rattle.ndr_decoder_fast.proofs.StructReading.{leap_stopped, leaps_on, safe_first}
use Rattle.ndr_decoder_fast.proofs.leaping.leap_one.Goals as goal

pub leap_alone-requires-clause-code : goal.leap_alone-requires-clause-code
leap_alone-requires-clause-code g c = address_fits c.args.code.now c.args.machine.now.pc c.args.instr c.requires.here c.requires.short

pub leap_alone-requires-clause-within : goal.leap_alone-requires-clause-within
leap_alone-requires-clause-within g c = (safe_first c.requires.safe).within

pub leap_alone-requires-clause-few : goal.leap_alone-requires-clause-few
leap_alone-requires-clause-few g c = few_nodes c.args.code.now c.args.machine.now (safe_first c.requires.safe)

pub leap_alone-requires-clause-cells : goal.leap_alone-requires-clause-cells
leap_alone-requires-clause-cells g c = few_cells c.args.code.now c.args.machine.now (safe_first c.requires.safe)

pub returns-in_err-leapt-clause-leaps : goal.returns-in_err-leapt-clause-leaps
returns-in_err-leapt-clause-leaps g c =
    let m = c.args.machine.now in
    leap_stopped c.args.values.now c.args.order c.args.code.now m.home (state_of m)
    (source_over g.S.Source.seen c.args.source.now c.leap_alone.new.source) (g.L.Ledger.number c.args.steps.now)
    (g.L.Ledger.number c.leap_alone.new.steps) (state_of c.leap_alone.new.machine) c.in_err-leapt.field-0.0 c.from_residual.result
    (c.in_err-leapt.ensures.takes c.args.values.now c.args.code.now m.home c.requires.here) c.from_residual.ensures.1

pub returns-clause-leaps : goal.returns-clause-leaps
returns-clause-leaps g c =
    let m = c.args.machine.now in
    leaps_on c.args.values.now c.args.order c.args.code.now m.home (state_of m)
    (source_over g.S.Source.seen c.args.source.now c.leap_alone.new.source) (g.L.Ledger.number c.args.steps.now)
    (g.L.Ledger.number c.leap_alone.new.steps) (state_of c.leap_alone.new.machine) c.in_ok-leapt.leapt
    (c.in_ok-leapt.ensures.takes c.args.values.now c.args.code.now m.home c.requires.here)
