use Rattle.std.proofs.Common.{ℕ, ◌+◌, ◌-◌, ◌*◌, length, false}
use Rattle.idl_grammar.specs.ReadExpressions.{expr_read}
use Rattle.idl_grammar.specs.Seen.{seen_expr}
use Rattle.idl_tokens.proofs.Unfolds.{Behind}
use Rattle.idl_tokens.proofs.expression.+expression.Given as goal

abbrev pub decreases-expression : goal.decreases-expression
decreases-expression l = 40 * l.nesting + 22

abbrev pub decreases-choice_of_two : goal.decreases-choice_of_two
decreases-choice_of_two l = 40 * l.nesting + 23

abbrev pub decreases-binary : goal.decreases-binary
decreases-binary l = 40 * l.nesting + (2 * l.rank + 1)

abbrev pub decreases-next_operation : goal.decreases-next_operation
decreases-next_operation l = 40 * l.nesting + 2 * l.rank

abbrev pub decreases-unary : goal.decreases-unary
decreases-unary l = 40 * l.nesting

abbrev pub decreases-round : goal.decreases-round
decreases-round l = 40 * l.nesting + 23

abbrev pub invariant-binary-loop-left : goal.invariant-binary-loop-left
invariant-binary-loop-left l = Behind l.start l.parser (expr_read l.nesting l.inside l.start l.parser false l.depth) l.rank l.at (seen_expr l.left) l.here

abbrev pub decreases-binary-loop-left : goal.decreases-binary-loop-left
decreases-binary-loop-left l = length l.parser - l.here
