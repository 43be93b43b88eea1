use Rattle.text_parser.proofs.FirstTokens.{no_string}
use Rattle.text_parser.proofs.lexeme.quoted.Goals as goal

pub returns-in-None : goal.returns-in-None
returns-in-None c = no_string c.args.text.now c.args.body.now c.requires c.in-None.ensures
