use Rattle.std.proofs.Common.{◌∙◌, sym}
use Rattle.ndr_explain.proofs.FilledGaps.{none_of, one_of}
use Rattle.ndr_explain.proofs.gaps.one_unless_zero.Goals as goal

pub returns-then-are_zero-clause-is : goal.returns-then-are_zero-clause-is
returns-then-are_zero-clause-is c = none_of c.args.octets.now (sym c.are_zero.ensures ∙ c.if-are_zero.true)

pub returns-else-are_zero-clause-is : goal.returns-else-are_zero-clause-is
returns-else-are_zero-clause-is c = one_of c.args.octets.now (sym c.are_zero.ensures ∙ c.if-are_zero.false)
