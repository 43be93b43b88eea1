use Rattle.text_parser.proofs.Shown.{comes}
use Rattle.text_parser.proofs.lexeme.scan.Goals as goal

pub returns-clause-comes : goal.returns-clause-comes
returns-clause-comes c =
    comes c.args.version c.args.text.now c.skip_blanks-here.result.now c.skip_blanks-here.ensures c.first.result.0 c.first.result.1.now c.first.ensures
