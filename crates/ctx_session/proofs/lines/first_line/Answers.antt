use Rattle.std.proofs.Common.{◌∙◌, ap, sym}
use Rattle.ctx_session.specs.Script.{line_of}
use Rattle.ctx_session.proofs.Scripts.{other_feed, other_line, begins}
use Rattle.ctx_session.proofs.lines.first_line.Goals as goal

pub returns-in_default-clause-other : goal.returns-in_default-clause-other
returns-in_default-clause-other c = other_feed c.args.octets.now (sym c.in_default.ensures.place)

pub returns-in-None-clause-other : goal.returns-in-None-clause-other
returns-in-None-clause-other c =
    other_line c.args.octets.now c.in-Some.end (sym c.in-Some.ensures.place) (ap line_of (sym c.front.ensures) ∙ sym c.in-None.ensures)
