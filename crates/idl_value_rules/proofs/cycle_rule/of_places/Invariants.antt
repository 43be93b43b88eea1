use Rattle.idl_value_rules.specs.Cycles.{first_number}
use Rattle.idl_value_rules.proofs.CycleLower.{AreLowered}
use Rattle.idl_value_rules.proofs.cycle_rule.of_places.Given as goal

abbrev pub invariant-loop-number : goal.invariant-loop-number
invariant-loop-number l = AreLowered (first_number l.types) l.values l.least.items l.number
