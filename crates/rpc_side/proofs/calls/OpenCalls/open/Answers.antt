use Rattle.std.proofs.Common.{◌∙◌, length, ap}
use Rattle.rpc_side.proofs.Stepping.{begin_step}
use Rattle.rpc_side.proofs.calls.OpenCalls.open.Goals as goal

pub returns-clause-stepped : goal.returns-clause-stepped
returns-clause-stepped c = λ k keeps.
    begin_step c.args.limits c.args.call c.len.result (length c.as_slice-count.result.now) c.args.self.now.octets c.args.pdu k c.none.result c.begin.new.self
    c.if-limits-len.false (c.len.ensures.len ∙ keeps.count) (ap length c.as_slice-count.ensures) keeps.octets c.if-not-fitting.ensures c.none.ensures
    (c.in_ok-begin.ensures.begun k keeps)
