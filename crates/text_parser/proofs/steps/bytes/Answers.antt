use Rattle.std.proofs.Common.{sym, subst}
use Rattle.text_grammar.specs.Tokens.{Bytes}
use Rattle.text_grammar.specs.Dues.{SomeBytes}
use Rattle.text_grammar.proofs.OneText.{cut_less}
use Rattle.text_parser.specs.Lexemes.{plain, other_reason}
use Rattle.text_parser.specs.Misses.{Misses}
use Rattle.text_parser.proofs.OneStep.{some_bytes, misses, no_bytes}
use Rattle.text_parser.proofs.steps.bytes.Goals as goal

pub returns-in-Some-clause-less : goal.returns-in-Some-clause-less
returns-in-Some-clause-less c =
    cut_less (plain c.args.version) c.args.text.now
    (Bytes (some_bytes c.args.version c.args.text.now c.scan-next.result.rest.now c.in-Some.body.now c.scan-next.result.lexeme c.scan-next.ensures.comes
    (sym c.in-Some.ensures)).0) c.scan-next.result.rest.now
    ((some_bytes c.args.version c.args.text.now c.scan-next.result.rest.now c.in-Some.body.now c.scan-next.result.lexeme c.scan-next.ensures.comes (sym c.in-Some.ensures)).2)

pub returns-in-None-clause-err : goal.returns-in-None-clause-err
returns-in-None-clause-err c =
    subst (Misses c.args.version (SomeBytes) c.args.text.now) (sym c.unexpected.ensures)
    (misses c.args.version (SomeBytes) c.args.text.now c.scan-next.result.here.now c.scan-next.result.rest.now c.scan-next.result.lexeme
    (other_reason c.scan-next.result.lexeme) c.scan-next.ensures.here c.scan-next.ensures.comes (no_bytes c.scan-next.result.lexeme (sym c.in-None.ensures)))
