use Rattle.std.proofs.Common.{sym, ◌∙◌}
use Rattle.nd_value.specs.Seen.{tree_of}
use Rattle.nd_misfits.proofs.Attributes.{number_there, number_nowhere}
use Rattle.nd_misfits.proofs.agreement.number_in.Goals as goal

pub returns-in-Some : goal.returns-in-Some
returns-in-Some c = c.number.ensures ∙ sym (number_there c.args.vals.now c.args.at (tree_of c.in-Some.val.now) c.in-Some.ensures.some)

pub returns-in-None : goal.returns-in-None
returns-in-None c = sym (number_nowhere c.args.vals.now c.args.at c.in-None.ensures.none)
