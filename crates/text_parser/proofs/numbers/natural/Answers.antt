use Rattle.std.proofs.Common.{◌∙◌, sym}
use Rattle.text_parser.proofs.Quick.{whole_number}
use Rattle.text_parser.proofs.numbers.natural.Goals as goal

pub returns-then-is_whole : goal.returns-then-is_whole
returns-then-is_whole c =
    let d = c.leading_digits-value in
    whole_number c.args.text.now d.result.1.now d.result.0 d.ensures.digits (sym c.is_whole.ensures ∙ c.if-is_whole.true)
