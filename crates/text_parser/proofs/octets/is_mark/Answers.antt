use Rattle.std.proofs.Common.{◌∙◌}
use Rattle.text_parser.proofs.Quick.{same_marks}
use Rattle.text_parser.proofs.octets.is_mark.Goals as goal

pub returns : goal.returns
returns c = c.is_one_of_marks.ensures ∙ same_marks c.args.octet
