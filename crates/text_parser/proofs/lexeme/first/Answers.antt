use Rattle.text_parser.proofs.Shown.{shown_plain}
use Rattle.text_parser.proofs.lexeme.first.Goals as goal

pub returns-in-None : goal.returns-in-None
returns-in-None c = shown_plain c.args.version c.args.text.now c.first_plain.result.1.now c.in-None.ensures c.first_plain.result.0 c.first_plain.ensures
