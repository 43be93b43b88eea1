use Rattle.std.proofs.Common.{◌≤◌, [], ◌∙◌, arith, sym}
use Rattle.std.proofs.lemmas.Option.{slice_get_within}
use Rattle.std.proofs.KnownBytes.{Consumes-nil}
use Rattle.nd_base.specs.declared.TheConstants.{STREAM_LIMIT}
use Rattle.nd_base.specs.Over.{source_over}
use Rattle.ndr_decoder_laws.specs.runs.Reaching.{IsSafe, begins}
use Rattle.ndr_decoder_state.specs.Seen.{state_of}
use Rattle.ndr_decoder_value.proofs.Taking.{count_fits}
use Rattle.ndr_decoder_fast.proofs.ElementsTaken.{address_fits}
use Rattle.ndr_decoder_value.proofs.Flowing.{flow_stopped, flow_taken}
use Rattle.ndr_decoder_value.proofs.running.take_next.Goals as goal

pub at-instr-requires : goal.at-instr-requires
at-instr-requires g c =
    let safe : IsSafe c.args.code.now (state_of c.args.machine.now) = c.requires.safe [] [] (state_of c.args.machine.now) begins in
    slice_get_within c.args.code.now c.args.machine.now.pc safe.i safe.there

pub take_flow-requires-clause-code : goal.take_flow-requires-clause-code
take_flow-requires-clause-code g c = address_fits c.args.code.now c.args.machine.now.pc c.at-instr.result c.at-instr.ensures c.requires.short

pub take_flow-requires-clause-few : goal.take_flow-requires-clause-few
take_flow-requires-clause-few g c =
    let m = c.args.machine.now in
    let few = count_fits c.args.code.now m (c.requires.safe [] [] (state_of m) begins) in omega (arith, few)

pub take_flow-requires-clause-fits : goal.take_flow-requires-clause-fits
take_flow-requires-clause-fits g c =
    let safe : IsSafe c.args.code.now (state_of c.args.machine.now) = c.requires.safe [] [] (state_of c.args.machine.now) begins in
    let within : c.args.machine.now.at ≤ STREAM_LIMIT = safe.within in omega (arith, within)

pub returns-in_err-progress-clause-turns : goal.returns-in_err-progress-clause-turns
returns-in_err-progress-clause-turns g c =
    let m = c.args.machine.now in
    flow_stopped c.args.values.now c.args.order c.args.code.now m.home m (source_over g.S.Source.seen c.args.source.now c.args.source.now) c.at-instr.result
    c.at-instr.ensures (Consumes-nil (g.S.Source.seen c.args.source.now).left) c.args.items.now (g.L.Ledger.number c.args.steps.now) c.take_flow.new.machine
    c.from_residual.result c.from_residual.ensures.1

pub returns-then-is_flow-clause-turns : goal.returns-then-is_flow-clause-turns
returns-then-is_flow-clause-turns g c =
    let m = c.args.machine.now in
    flow_taken c.args.values.now c.args.order c.args.code.now m.home m (source_over g.S.Source.seen c.args.source.now c.args.source.now) c.at-instr.result
    c.at-instr.ensures (Consumes-nil (g.S.Source.seen c.args.source.now).left) c.args.items.now (g.L.Ledger.number c.args.steps.now) c.take_flow.new.machine
    c.in_ok-progress.progress (sym c.is_flow.ensures ∙ c.if-is_flow.true) c.requires.safe c.in_ok-progress.ensures.does

pub row_len-count-requires : goal.row_len-count-requires
row_len-count-requires g c = record { code = address_fits c.args.code.now c.args.machine.now.pc c.at-instr.result c.at-instr.ensures c.requires.short }
