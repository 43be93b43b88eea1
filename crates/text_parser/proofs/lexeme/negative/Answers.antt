use Rattle.text_parser.proofs.FirstTokens.{minus_without_number, minus_zero}
use Rattle.text_parser.proofs.lexeme.negative.Goals as goal

pub returns-in_default : goal.returns-in_default
returns-in_default c = minus_without_number c.args.text.now c.args.digits.now c.requires c.in_default.ensures

pub returns-then-value-eq0 : goal.returns-then-value-eq0
returns-then-value-eq0 c =
    minus_zero c.args.text.now c.args.digits.now c.in-Some.value c.in-Some.rest.now c.requires c.in-Some.ensures c.if-value-eq0.true
