use Rattle.std.proofs.Common.{◌∙◌, sym, subst, codes}
use Rattle.text_grammar.specs.Tokens.{Word, Cell}
use Rattle.text_grammar.specs.Dues.{APointer}
use Rattle.text_grammar.proofs.OneText.{cut_less}
use Rattle.text_parser.specs.Lexemes.{plain, other_reason}
use Rattle.text_parser.specs.Misses.{Misses}
use Rattle.text_parser.proofs.OneStep.{a_word, a_cell, misses, no_reference}
use Rattle.text_parser.proofs.steps.reference.Goals as goal

pub returns-then-is_word-clause-less : goal.returns-then-is_word-clause-less
returns-then-is_word-clause-less c =
    cut_less (plain c.args.version) c.args.text.now (Word (codes "null")) c.scan-next.result.rest.now
    (a_word c.args.version c.args.text.now c.scan-next.result.rest.now (codes "null") c.scan-next.result.lexeme c.scan-next.ensures.comes (sym c.is_word.ensures ∙ c.if-is_word.true))

pub returns-in-Some-clause-less : goal.returns-in-Some-clause-less
returns-in-Some-clause-less c =
    cut_less (plain c.args.version) c.args.text.now (Cell c.in-Some.cell) c.scan-next.result.rest.now
    (a_cell c.args.version c.args.text.now c.scan-next.result.rest.now c.in-Some.cell c.scan-next.result.lexeme c.scan-next.ensures.comes (sym c.in-Some.ensures))

pub returns-in-None-clause-err : goal.returns-in-None-clause-err
returns-in-None-clause-err c =
    λ to. subst (Misses c.args.version (APointer to) c.args.text.now) (sym c.unexpected.ensures)
    (misses c.args.version (APointer to) c.args.text.now c.scan-next.result.here.now c.scan-next.result.rest.now c.scan-next.result.lexeme
    (other_reason c.scan-next.result.lexeme) c.scan-next.ensures.here c.scan-next.ensures.comes
    (no_reference to c.scan-next.result.lexeme (sym c.is_word.ensures ∙ c.if-is_word.false) (sym c.in-None.ensures)))
