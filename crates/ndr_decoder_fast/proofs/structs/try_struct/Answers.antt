use Rattle.std.proofs.Common.{◌≤◌, arith, rules}
use Rattle.nd_base.specs.declared.TheConstants.{STREAM_LIMIT}
use Rattle.nd_base.specs.Over.{source_over}
use Rattle.ndr_decoder_state.specs.Seen.{state_of}
use Rattle.ndr_decoder_fast.specs.Strings.{HasCome}
use Rattle.ndr_decoder_fast.proofs.StructReading.{safe_first, struct_stopped}
use Rattle.ndr_decoder_fast.proofs.structs.try_struct.Goals as goal

pub overflow_sub-machine : goal.overflow_sub-machine
overflow_sub-machine g c =
    let below : c.args.machine.now.at ≤ STREAM_LIMIT = (safe_first c.requires.safe).within in
    omega (arith, below)

pub returns-in_err-read_struct-clause-leaps : goal.returns-in_err-read_struct-clause-leaps
returns-in_err-read_struct-clause-leaps g c =
    let m = c.args.machine.now in
    let came : HasCome (g.S.Source.seen c.args.source.now).left (g.S.Source.seen c.at_hand.new.source).left c.at_hand.new.octets = search rules in
    struct_stopped c.args.values.now c.args.order c.args.code.now m.home (state_of m)
    (source_over g.S.Source.seen c.args.source.now c.at_hand.new.source) (g.L.Ledger.number c.args.steps.now) c.at_hand.new.octets came.taken came.octets
    (g.L.Ledger.number c.read_struct.new.steps) (state_of c.read_struct.new.machine) (state_of c.read_struct.new.machine) c.in_err-read_struct.field-0.0 c.from_residual.result
    c.in_err-read_struct.ensures.read c.from_residual.ensures.1
