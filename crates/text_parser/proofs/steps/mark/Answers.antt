use Rattle.text_parser.proofs.Quick.{mark_cut}
use Rattle.text_parser.proofs.steps.mark.Goals as goal

pub returns-in-Some-clause-ok : goal.returns-in-Some-clause-ok
returns-in-Some-clause-ok c = mark_cut c.args.version c.args.due c.args.text.now c.in-Some.rest.now c.in-Some.ensures.is c.in-Some.ensures.mark
