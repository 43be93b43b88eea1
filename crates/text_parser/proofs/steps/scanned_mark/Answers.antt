use Rattle.std.proofs.Common.{◌∙◌, sym, subst}
use Rattle.text_grammar.specs.Tokens.{Mark}
use Rattle.text_grammar.specs.Written.{Other}
use Rattle.text_grammar.specs.Dues.{This}
use Rattle.text_grammar.proofs.OneText.{cut_less}
use Rattle.text_parser.specs.Lexemes.{plain, other_reason}
use Rattle.text_parser.specs.Misses.{Misses}
use Rattle.text_parser.proofs.OneStep.{a_mark, misses, no_mark}
use Rattle.text_parser.proofs.steps.scanned_mark.Goals as goal

pub returns-then-is_mark-clause-ok : goal.returns-then-is_mark-clause-ok
returns-then-is_mark-clause-ok c =
    a_mark c.args.version c.args.text.now c.scan-next.result.rest.now c.args.due c.scan-next.result.lexeme c.scan-next.ensures.comes (sym c.is_mark.ensures ∙ c.if-is_mark.true)

pub returns-then-is_mark-clause-less : goal.returns-then-is_mark-clause-less
returns-then-is_mark-clause-less c =
    cut_less (plain c.args.version) c.args.text.now (Mark c.args.due) c.scan-next.result.rest.now
    (a_mark c.args.version c.args.text.now c.scan-next.result.rest.now c.args.due c.scan-next.result.lexeme c.scan-next.ensures.comes (sym c.is_mark.ensures ∙ c.if-is_mark.true))

pub returns-clause-err : goal.returns-clause-err
returns-clause-err c =
    subst (Misses c.args.version (This (Other (Mark c.args.due))) c.args.text.now) (sym c.unexpected.ensures)
    (misses c.args.version (This (Other (Mark c.args.due))) c.args.text.now c.scan-next.result.here.now c.scan-next.result.rest.now c.scan-next.result.lexeme
    (other_reason c.scan-next.result.lexeme) c.scan-next.ensures.here c.scan-next.ensures.comes (no_mark c.args.due c.scan-next.result.lexeme (sym c.is_mark.ensures ∙ c.if-is_mark.false)))
