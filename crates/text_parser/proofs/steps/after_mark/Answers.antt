use Rattle.text_parser.proofs.Quick.{mark_cut}
use Rattle.text_parser.proofs.steps.after_mark.Goals as goal

pub returns-in-Some-clause-some : goal.returns-in-Some-clause-some
returns-in-Some-clause-some c = mark_cut c.args.version c.args.due c.args.text.now c.in-Some.rest.now c.in-Some.ensures.is c.in-Some.ensures.mark
