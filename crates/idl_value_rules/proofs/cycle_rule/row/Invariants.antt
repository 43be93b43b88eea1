use Rattle.std.proofs.Common.{◌≡◌, List, take}
use Rattle.idl_declared_types.specs.declared.kinds.Kind.{Kind}
use Rattle.idl_value_rules.specs.Cycles.{AreInnermost}
use Rattle.idl_value_rules.proofs.CycleLoops.{numbers_in}
use Rattle.idl_value_rules.proofs.cycle_rule.row.Given as goal

-- the numbers of the parts so far
abbrev pub invariant-loop-part : goal.invariant-loop-part
invariant-loop-part l = (ks : List Kind) → AreInnermost ks l.places → l.numbers.items ≡ numbers_in l.types ks (take l.part-index l.parts)
