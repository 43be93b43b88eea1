use Rattle.std.proofs.Common.{◌≡◌, ◌++◌, map, drop, Some}
use Rattle.idl_grammar.specs.Seen.{seen_expr}
use Rattle.idl_scope.specs.Seen.{known_in}
use Rattle.idl_rule_definitions.specs.Nodes.{value_in}
use Rattle.idl_interface.proofs.arms.add_values.Given as goal

-- what is there, with what is left
abbrev pub invariant-loop-value : goal.invariant-loop-value
invariant-loop-value l =
    l.labels.items ++ map (λ e. Some (value_in (known_in l.scope) e)) (map seen_expr (drop l.value-index l.values))
    ≡ l.initial.labels.items ++ map (λ e. Some (value_in (known_in l.scope) e)) (map seen_expr l.values)
