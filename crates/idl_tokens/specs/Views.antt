-- What the parser's own structs stand for.
use Rattle.std.specs.Prelude.{ℕ}
use Rattle.idl_grammar.specs.declared.expressions.BinaryOperator.{BinaryOperator}
use Rattle.idl_grammar.specs.Tree as tree
use Rattle.idl_grammar.specs.Seen.{seen_expr}
use Rattle.idl_tokens.specs.declared.expression.Operation.{Operation}
use Rattle.idl_tokens.specs.declared.expression.Branches.{Branches}

-- an operator and its right operand
abbrev pub seen_operation : Operation → (ℕ × BinaryOperator) × tree.Expr
seen_operation o = ((o.at, o.operator), seen_expr o.right)

-- what stands after a condition
abbrev pub seen_branches : Branches → ℕ × (tree.Expr × tree.Expr)
seen_branches b = (b.at, (seen_expr b.then, seen_expr b.otherwise))
