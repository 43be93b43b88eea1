use Rattle.std.proofs.Common.{◌≤◌, [], arith}
use Rattle.std.proofs.KnownBytes.{Consumes-nil}
use Rattle.nd_base.specs.declared.TheConstants.{STREAM_LIMIT}
use Rattle.nd_base.specs.Over.{source_over}
use Rattle.ndr_decoder_laws.specs.runs.Reaching.{IsSafe, begins}
use Rattle.ndr_decoder_state.specs.Seen.{state_of}
use Rattle.ndr_decoder_fast.proofs.ElementsTaken.{address_fits}
use Rattle.ndr_decoder_value.proofs.Flowing.{flow_taken, quick_flows}
use Rattle.ndr_decoder_value.proofs.running.take_quick.Goals as goal

pub pass_quick-requires-clause-code : goal.pass_quick-requires-clause-code
pass_quick-requires-clause-code g c = address_fits c.args.code.now c.args.machine.now.pc c.args.instr c.requires.here c.requires.short

pub pass_quick-requires-clause-fits : goal.pass_quick-requires-clause-fits
pass_quick-requires-clause-fits g c =
    let safe : IsSafe c.args.code.now (state_of c.args.machine.now) = c.requires.safe [] [] (state_of c.args.machine.now) begins in
    let within : c.args.machine.now.at ≤ STREAM_LIMIT = safe.within in omega (arith, within)

pub returns-clause-turns : goal.returns-clause-turns
returns-clause-turns g c =
    let m = c.args.machine.now in
    flow_taken c.args.values.now c.args.order c.args.code.now m.home m (source_over g.S.Source.seen c.args.source.now c.args.source.now) c.args.instr
    c.requires.here (Consumes-nil (g.S.Source.seen c.args.source.now).left) c.args.items.now (g.L.Ledger.number c.args.steps.now) c.pass_quick.new.machine
    c.pass_quick.result (quick_flows c.args.instr m.at c.requires.quick) c.requires.safe c.pass_quick.ensures.does
