use Rattle.std.proofs.Common.{◌∙◌, sym}
use Rattle.text_grammar.specs.Tokens.{Mark}
use Rattle.text_grammar.proofs.OneText.{cut_less}
use Rattle.text_parser.specs.Lexemes.{plain}
use Rattle.text_parser.proofs.OneStep.{a_mark, other_mark}
use Rattle.text_parser.proofs.steps.after_scanned_mark.Goals as goal

pub returns-then-is_mark-clause-less : goal.returns-then-is_mark-clause-less
returns-then-is_mark-clause-less c =
    cut_less (plain c.args.version) c.args.text.now (Mark c.args.due) c.scan-next.result.rest.now
    (a_mark c.args.version c.args.text.now c.scan-next.result.rest.now c.args.due c.scan-next.result.lexeme c.scan-next.ensures.comes (sym c.is_mark.ensures ∙ c.if-is_mark.true))

pub returns-clause-none : goal.returns-clause-none
returns-clause-none c =
    other_mark c.args.version c.args.text.now c.scan-next.result.rest.now c.args.due c.scan-next.result.lexeme c.scan-next.ensures.comes (sym c.is_mark.ensures ∙ c.if-is_mark.false)
