use Rattle.std.proofs.Common.{◌∙◌}
use Rattle.ctx_session.proofs.LineLaws.{opened_is}
use Rattle.ctx_session.proofs.line.read_open.Goals as goal

pub returns-in-Some : goal.returns-in-Some
returns-in-Some c = λ octets.
    c.open_line.ensures octets
    ∙ opened_is c.args.rest.now c.front.result.now c.rest_at.result.now c.in-Some.at c.read_client.result c.read_id.result c.in-Some.ensures.place c.front.ensures
    c.rest_at.ensures c.read_client.ensures c.read_id.ensures
