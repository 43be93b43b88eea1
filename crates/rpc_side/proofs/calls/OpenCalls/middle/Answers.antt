use Rattle.std.proofs.Common.{length, ap, sym}
use Rattle.rpc_side.proofs.Stepping.{grow_step}
use Rattle.rpc_side.proofs.calls.OpenCalls.middle.Goals as goal

pub returns-in_ok-grow-in-Some-clause-stepped : goal.returns-in_ok-grow-in-Some-clause-stepped
returns-in_ok-grow-in-Some-clause-stepped c = λ k keeps.
    grow_step c.args.limits c.args.call c.in-Some.own (length c.as_slice-count.result.now) c.args.pdu k c.none.result c.args.self.now c.grow.new.self
    (sym c.in-Some.ensures) keeps (ap length c.as_slice-count.ensures) c.if-fitting.ensures (c.in_ok-grow-in-Some.ensures.grown k keeps) c.none.ensures
