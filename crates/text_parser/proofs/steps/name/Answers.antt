use Rattle.std.proofs.Common.{◌∙◌, sym, ap, subst, length}
use Rattle.text_grammar.specs.Tokens.{Word}
use Rattle.text_grammar.specs.Written.{Name}
use Rattle.text_grammar.specs.Dues.{This}
use Rattle.text_grammar.proofs.OneText.{cut_less}
use Rattle.text_parser.specs.declared.stop.Stop.TheVariants as stop
use Rattle.text_parser.specs.Lexemes.{plain, name_reason}
use Rattle.text_parser.specs.Misses.{Misses}
use Rattle.text_parser.proofs.OneStep.{a_word, misses, no_name}
use Rattle.text_parser.proofs.steps.name.Goals as goal

pub returns-then-is_word-clause-less : goal.returns-then-is_word-clause-less
returns-then-is_word-clause-less c =
    cut_less (plain c.args.version) c.args.text.now (Word c.args.due.now) c.scan-next.result.rest.now
    (a_word c.args.version c.args.text.now c.scan-next.result.rest.now c.args.due.now c.scan-next.result.lexeme c.scan-next.ensures.comes (sym c.is_word.ensures ∙ c.if-is_word.true))

pub returns-clause-err : goal.returns-clause-err
returns-clause-err c =
    subst (Misses c.args.version (This (Name c.args.due.now)) c.args.text.now) (sym (c.refused.ensures ∙ ap (λ r. stop.At (length c.scan-next.result.here.now) r) c.why_no_name.ensures))
    (misses c.args.version (This (Name c.args.due.now)) c.args.text.now c.scan-next.result.here.now c.scan-next.result.rest.now c.scan-next.result.lexeme
    (name_reason c.scan-next.result.lexeme) c.scan-next.ensures.here c.scan-next.ensures.comes (no_name c.args.due.now c.scan-next.result.lexeme (sym c.is_word.ensures ∙ c.if-is_word.false)))
