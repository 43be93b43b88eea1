use Rattle.std.proofs.Common.{◌≡◌, length}
use Rattle.idl_cycles.specs.declared.graph.rounds.Rule.TheVariants.{Never}
use Rattle.idl_declared_types.specs.InPlace.{barred_rule}
use Rattle.idl_declared_types.proofs.PlacesFilled.{Each, RuleOf}
use Rattle.idl_value_rules.proofs.in_place.barred_rules.Given as goal

-- the rules of the types so far
abbrev pub invariant-loop-number : goal.invariant-loop-number
invariant-loop-number l = (length l.rules.items ≡ l.number) × Each (RuleOf barred_rule l.kinds) Never l.rules.items
