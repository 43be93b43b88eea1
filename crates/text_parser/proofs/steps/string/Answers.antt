use Rattle.std.proofs.Common.{sym, subst}
use Rattle.text_grammar.specs.Tokens.{Str}
use Rattle.text_grammar.specs.Dues.{AString}
use Rattle.text_grammar.proofs.OneText.{cut_less}
use Rattle.text_parser.specs.Lexemes.{plain, other_reason}
use Rattle.text_parser.specs.Misses.{Misses}
use Rattle.text_parser.proofs.OneStep.{a_string, misses, no_string}
use Rattle.text_parser.proofs.steps.string.Goals as goal

pub returns-in-Some-clause-less : goal.returns-in-Some-clause-less
returns-in-Some-clause-less c =
    cut_less (plain c.args.version) c.args.text.now
    (Str (a_string c.args.version c.args.text.now c.scan-next.result.rest.now c.in-Some.body.now c.scan-next.result.lexeme c.scan-next.ensures.comes
    (sym c.in-Some.ensures)).0) c.scan-next.result.rest.now
    ((a_string c.args.version c.args.text.now c.scan-next.result.rest.now c.in-Some.body.now c.scan-next.result.lexeme c.scan-next.ensures.comes (sym c.in-Some.ensures)).2)

pub returns-in-None-clause-err : goal.returns-in-None-clause-err
returns-in-None-clause-err c =
    subst (Misses c.args.version (AString) c.args.text.now) (sym c.unexpected.ensures)
    (misses c.args.version (AString) c.args.text.now c.scan-next.result.here.now c.scan-next.result.rest.now c.scan-next.result.lexeme
    (other_reason c.scan-next.result.lexeme) c.scan-next.ensures.here c.scan-next.ensures.comes (no_string c.scan-next.result.lexeme (sym c.in-None.ensures)))
