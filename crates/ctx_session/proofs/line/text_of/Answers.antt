use Rattle.std.proofs.Common.{sym, arith}
use Rattle.std.proofs.lemmas.List.{drop_all}
use Rattle.ctx_session.proofs.line.text_of.Goals as goal

pub returns-then-octets-lt41 : goal.returns-then-octets-lt41
returns-then-octets-lt41 c = (let h = c.if-octets-lt41.true in sym (drop_all 41 c.args.octets.now (omega (arith, h))))
