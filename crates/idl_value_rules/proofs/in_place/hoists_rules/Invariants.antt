use Rattle.std.proofs.Common.{◌≡◌, length}
use Rattle.idl_cycles.specs.declared.graph.rounds.Rule.TheVariants.{Never}
use Rattle.idl_declared_types.specs.InPlace.{hoists_rule}
use Rattle.idl_declared_types.proofs.PlacesFilled.{Each, RuleOf}
use Rattle.idl_value_rules.proofs.in_place.hoists_rules.Given as goal

-- the rules of the types so far
abbrev pub invariant-loop-number : goal.invariant-loop-number
invariant-loop-number l = (length l.rules.items ≡ l.number) × Each (RuleOf hoists_rule l.kinds) Never l.rules.items
