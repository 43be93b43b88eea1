use Rattle.std.proofs.Common.{◌∙◌, map, ap, sym, arith, option_map}
use Rattle.std.specs.List.{list_any}
use Rattle.idl_grammar.specs.Seen.{seen_bound}
use Rattle.idl_scope.specs.Seen.{known_in}
use Rattle.idl_rule_definitions.specs.DeclarationRules.{has_lower_bound}
use Rattle.idl_constructs.proofs.AnyFrom.{found_there, not_there, nowhere}
use Rattle.idl_value_rules.proofs.values.has_lower_bounds.Goals as goal

pub loop-bound-init : goal.loop-bound-init
loop-bound-init c = ap (λ l. list_any (has_lower_bound (known_in c.args.scope.now)) (map (option_map seen_bound) l)) c.deref-bound-items.ensures.value

pub returns-then-has_lower_bound : goal.returns-then-has_lower_bound
returns-then-has_lower_bound c d is =
    found_there (option_map seen_bound) (has_lower_bound (known_in c.args.scope.now)) c.deref-bound-items.result.now c.loop-bound.bound-index c.bound-item.result (omega arith) c.bound-item.is
    (sym c.if-has_lower_bound.true ∙ c.has_lower_bound.ensures)
    ∙ c.loop-bound.invariant ∙ sym (ap (λ x. list_any (has_lower_bound (known_in c.args.scope.now)) x.dimensions) is)

pub loop-bound-preserved : goal.loop-bound-preserved
loop-bound-preserved c =
    sym (not_there (option_map seen_bound) (has_lower_bound (known_in c.args.scope.now)) c.deref-bound-items.result.now c.loop-bound.bound-index c.bound-item.result (omega arith) c.bound-item.is
    (sym c.if-has_lower_bound.false ∙ c.has_lower_bound.ensures))
    ∙ c.loop-bound.invariant

pub returns : goal.returns
returns c d is =
    nowhere (option_map seen_bound) (has_lower_bound (known_in c.args.scope.now)) c.deref-bound-items.result.now c.loop-bound.bound-index (omega arith)
    ∙ c.loop-bound.invariant ∙ sym (ap (λ x. list_any (has_lower_bound (known_in c.args.scope.now)) x.dimensions) is)
