use Rattle.std.proofs.Common.{◌≡◌, length}
use Rattle.idl_declared_types.specs.Kinds.{seen_types}
use Rattle.idl_value_rules.specs.Counted.{AreCounted}
use Rattle.idl_value_rules.proofs.counted.of_kinds.Given as goal

-- the types so far
abbrev pub invariant-loop-number : goal.invariant-loop-number
invariant-loop-number l = (length l.counts.items ≡ l.number) × AreCounted (seen_types l.kinds) l.counts.items
