use Rattle.ndr_trace_value.proofs.Ending.{all_passed}
use Rattle.ndr_trace.proofs.WholeWalk.{begins, is_here}
use Rattle.ndr_trace.proofs.tracing.walk.Goals as goal

pub returns-in-Ok : goal.returns-in-Ok
returns-in-Ok c k u s side g = all_passed k c.walk_side.new.walker.progress (c.in-Ok.ensures.goes k u s side (begins k c.begin-walker.result s g c.args.ground.now u c.begin-walker.ensures))

pub returns-in-Err-Here : goal.returns-in-Err-Here
returns-in-Err-Here c k u s side g =
    c.in-Err-Here.ensures.ends k u s side (begins k c.begin-walker.result s g c.args.ground.now u c.begin-walker.ensures)
    (is_here c.in-Err-Here.field-0 c.in-Err-Here.field-0-is)
