use Rattle.std.proofs.Common.{[], arith, subst}
use Rattle.nd_base.specs.Over.{source_over}
use Rattle.nd_types.specs.Number.{AreOctets}
use Rattle.ndr_decoder_laws.specs.steps.Steps.{step}
use Rattle.ndr_decoder_laws.specs.steps.StepItems.{step_items}
use Rattle.ndr_decoder_laws.specs.runs.Reaching.{IsSafe, begins}
use Rattle.ndr_decoder_state.specs.Seen.{state_of, Comes}
use Rattle.ndr_decoder_state.specs.Notes.{Noted, notes_seen}
use Rattle.ndr_decoder_value.proofs.Taking.{inner_here, count_fits, cells_fit}
use Rattle.ndr_decoder_fast.proofs.ElementsTaken.{address_fits}
use Rattle.ndr_decoder_value.proofs.OneTurn.{one_stopped, one_taken}
use Rattle.ndr_decoder_value.proofs.running.take_one.Goals as goal

pub fetch-came-requires-clause-inner : goal.fetch-came-requires-clause-inner
fetch-came-requires-clause-inner g c =
    let m = c.args.machine.now in inner_here c.args.code.now (state_of m) c.args.instr (c.requires.safe [] [] (state_of m) begins) c.requires.here

pub fetch-came-requires-clause-within : goal.fetch-came-requires-clause-within
fetch-came-requires-clause-within g c =
    let safe : IsSafe c.args.code.now (state_of c.args.machine.now) = c.requires.safe [] [] (state_of c.args.machine.now) begins in safe.within

pub returns-in_err-came-clause-turns : goal.returns-in_err-came-clause-turns
returns-in_err-came-clause-turns g c =
    let m = c.args.machine.now in
    one_stopped c.args.values.now c.args.order c.args.code.now m.home m (source_over g.S.Source.seen c.args.source.now c.fetch-came.new.source)
    c.args.instr c.fetch-came.new.intake c.requires.here (subst AreOctets c.octets.ensures c.are_octets.ensures) c.fetch-came.ensures.left c.args.items.now
    (g.L.Ledger.number c.args.steps.now) m c.in_err-came.field-0.0 c.from_residual.result c.in_err-came.ensures.fetched c.from_residual.ensures.1

pub take_step-requires-clause-inner : goal.take_step-requires-clause-inner
take_step-requires-clause-inner g c =
    let m = c.args.machine.now in inner_here c.args.code.now (state_of m) c.args.instr (c.requires.safe [] [] (state_of m) begins) c.requires.here

pub take_step-requires-clause-code : goal.take_step-requires-clause-code
take_step-requires-clause-code g c = address_fits c.args.code.now c.args.machine.now.pc c.args.instr c.requires.here c.requires.short

pub take_step-requires-clause-few : goal.take_step-requires-clause-few
take_step-requires-clause-few g c =
    let m = c.args.machine.now in
    let few = count_fits c.args.code.now m (c.requires.safe [] [] (state_of m) begins) in omega (arith, few)

pub take_step-requires-clause-cells : goal.take_step-requires-clause-cells
take_step-requires-clause-cells g c = let m = c.args.machine.now in cells_fit c.args.code.now m (c.requires.safe [] [] (state_of m) begins)

pub returns-clause-turns : goal.returns-clause-turns
returns-clause-turns g c =
    let m = c.args.machine.now in
    let n = c.take_step.new.machine in
    let notes = notes_seen c.args.items.now c.take_step.new.items (g.L.Ledger.number c.args.steps.now) (g.L.Ledger.number c.take_step.new.steps) m.cells n.cells in
    one_taken c.args.values.now c.args.order c.args.code.now m.home m (source_over g.S.Source.seen c.args.source.now c.fetch-came.new.source)
    c.args.instr c.fetch-came.new.intake c.requires.here (subst AreOctets c.octets.ensures c.are_octets.ensures) c.fetch-came.ensures.left c.args.items.now
    (g.L.Ledger.number c.args.steps.now) n c.take_step.new.items (g.L.Ledger.number c.take_step.new.steps) c.take_step.result c.requires.safe c.in_ok-came.ensures.fetched
    (subst (λ o. Comes (step c.args.values.now c.args.order o c.args.instr (state_of m)) c.take_step.result (state_of n)) c.octets-2.ensures c.take_step.ensures.does)
    (subst (λ o. Noted (step c.args.values.now c.args.order o c.args.instr (state_of m)) (step_items c.args.order m.home o c.args.instr (state_of m)) notes c.take_step.result)
    c.octets-2.ensures c.take_step.ensures.noted)
