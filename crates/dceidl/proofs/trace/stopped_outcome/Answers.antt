use Rattle.dceidl.proofs.Traces.{reported}
use Rattle.dceidl.proofs.trace.stopped_outcome.Goals as goal

pub returns-in-Some : goal.returns-in-Some
returns-in-Some c = λ x d a o h.
    reported x d c.args.stopped h c.status-status.result c.status-status.ensures c.args.idl.now c.args.op.now c.in-Ok.line a o c.in-Ok.ensures c.in-Some.text c.in-Some.is
