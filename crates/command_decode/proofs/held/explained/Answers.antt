use Rattle.nd_value.specs.Fitting.{setting_beside}
use Rattle.command_decode.proofs.TraceSteps.{trailed_answer, whole_answer}
use Rattle.command_decode.proofs.held.explained.Goals as goal

pub returns-then-octets-place : goal.returns-then-octets-place
returns-then-octets-place c order o there front =
    let d = c.args.decoded.now in
    whole_answer (setting_beside c.args.interface.now o d.fit.side d.fit.given) order c.args.octets.now d.taken d.fit.graph c.args.items.now.items front c.in_ok-lines.lines
    (c.in_ok-lines.ensures o there) c.count_filled_gaps-gaps.result c.count_filled_gaps-gaps.ensures c.if-octets-place.true c.whole.result c.whole.ensures

pub returns-else-octets-place : goal.returns-else-octets-place
returns-else-octets-place c order o there front =
    let d = c.args.decoded.now in
    trailed_answer (setting_beside c.args.interface.now o d.fit.side d.fit.given) order c.args.octets.now d.taken d.fit.graph c.args.items.now.items front c.in_ok-lines.lines
    (c.in_ok-lines.ensures o there) c.count_filled_gaps-gaps.result c.count_filled_gaps-gaps.ensures c.if-octets-place.false c.trailed.result c.trailed.ensures
