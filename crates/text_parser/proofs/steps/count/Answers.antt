use Rattle.std.proofs.Common.{sym, subst, pos}
use Rattle.text_grammar.specs.Tokens.{Number}
use Rattle.text_grammar.specs.Dues.{ACount}
use Rattle.text_grammar.proofs.OneText.{cut_less}
use Rattle.text_parser.specs.Lexemes.{plain, other_reason}
use Rattle.text_parser.specs.Misses.{Misses}
use Rattle.text_parser.proofs.OneStep.{a_count, misses, no_count}
use Rattle.text_parser.proofs.steps.count.Goals as goal

pub returns-in-Some-clause-less : goal.returns-in-Some-clause-less
returns-in-Some-clause-less c =
    cut_less (plain c.args.version) c.args.text.now (Number (pos c.in-Some.value)) c.scan-next.result.rest.now
    (a_count c.args.version c.args.text.now c.scan-next.result.rest.now (pos c.in-Some.value) c.scan-next.result.lexeme c.scan-next.ensures.comes (sym c.in-Some.ensures))

pub returns-in-None-clause-err : goal.returns-in-None-clause-err
returns-in-None-clause-err c =
    subst (Misses c.args.version (ACount) c.args.text.now) (sym c.unexpected.ensures)
    (misses c.args.version (ACount) c.args.text.now c.scan-next.result.here.now c.scan-next.result.rest.now c.scan-next.result.lexeme
    (other_reason c.scan-next.result.lexeme) c.scan-next.ensures.here c.scan-next.ensures.comes (no_count c.scan-next.result.lexeme (sym c.in-None.ensures)))
