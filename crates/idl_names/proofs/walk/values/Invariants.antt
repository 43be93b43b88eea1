use Rattle.std.proofs.Common.{◌≡◌, map}
use Rattle.std.specs.List.{flat_map}
use Rattle.idl_grammar.specs.Seen as seen
use Rattle.idl_scope.specs.Known.{walked}
use Rattle.idl_scope.specs.Steps as steps
use Rattle.idl_names.proofs.Walked.{from}
use Rattle.idl_names.proofs.walk.values.Given as goal

-- the steps of the items that are left come to what those of all come to
abbrev pub invariant-loop-expression : goal.invariant-loop-expression
invariant-loop-expression l =
    walked l.file l.names (from seen.seen_expr steps.value_steps l.expression-items l.expression-index) ≡ walked l.file l.names (flat_map steps.value_steps (map seen.seen_expr l.expression-items))
