use Rattle.std.proofs.Common.{◌≡◌, length}
use Rattle.idl_declared_types.proofs.PlacesFilled.{Each}
use Rattle.idl_value_rules.proofs.CycleKeys.{NumberWith}
use Rattle.idl_value_rules.proofs.cycle_rule.with_key.Given as goal

abbrev pub invariant-loop-number : goal.invariant-loop-number
invariant-loop-number l = (length l.numbers.items ≡ l.number) × Each (NumberWith l.keys l.key) 0 l.numbers.items
