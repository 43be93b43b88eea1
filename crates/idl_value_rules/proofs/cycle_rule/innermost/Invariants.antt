use Rattle.std.proofs.Common.{◌≡◌, length}
use Rattle.idl_value_rules.specs.Cycles.{AreInnermostBelow}
use Rattle.idl_value_rules.proofs.cycle_rule.innermost.Given as goal

-- the types so far
abbrev pub invariant-loop-number : goal.invariant-loop-number
invariant-loop-number l = (length l.places.items ≡ l.number) × AreInnermostBelow l.kinds l.number l.places.items
