use Rattle.std.proofs.Common.{sym, subst}
use Rattle.ctx_session.specs.declared.answer.Answer.TheVariants as answer
use Rattle.ctx_session.specs.declared.line.Line.{Line}
use Rattle.ctx_session.specs.Lines.{line_meant}
use Rattle.ctx_session.specs.Session.{DoesLine, downed}
use Rattle.ctx_session.specs.Stocked.{state_of}
use Rattle.ctx_session.proofs.session.do_line.Goals as goal

pub returns-in-Down-clause-does : goal.returns-in-Down-clause-does
returns-in-Down-clause-does g c =
    let P : Line → Type 0 = λ l. DoesLine (state_of g.R.Resource.shows c.args.store.now c.args.stock.now) (line_meant c.args.octets.now l) (answer.Ended c.end_client.result)
    (state_of g.R.Resource.shows c.end_client.new.store c.end_client.new.stock) in
    subst P (sym c.in-Down.is) (downed c.end_client.ensures.does)
