use Rattle.std.proofs.Common.{◌≡◌, map, option_map}
use Rattle.std.specs.List.{list_any}
use Rattle.idl_grammar.specs.Seen.{seen_bound}
use Rattle.idl_scope.specs.Seen.{known_in}
use Rattle.idl_rule_definitions.specs.DeclarationRules.{has_lower_bound}
use Rattle.idl_constructs.proofs.AnyFrom.{any_from}
use Rattle.idl_value_rules.proofs.values.has_lower_bounds.Given as goal

-- a dimension that is left has one, or none has
abbrev pub invariant-loop-bound : goal.invariant-loop-bound
invariant-loop-bound l =
    any_from (option_map seen_bound) (has_lower_bound (known_in l.scope)) l.bound-items l.bound-index
    ≡ list_any (has_lower_bound (known_in l.scope)) (map (option_map seen_bound) l.declarator.dimensions.items)
