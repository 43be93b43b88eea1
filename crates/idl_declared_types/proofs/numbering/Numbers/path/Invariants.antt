use Rattle.std.proofs.Common.{◌≡◌, ℕ, suc, ◌++◌, Option, Some, None, reverse}
use Rattle.idl_rule_definitions.specs.Numbering.{built}
use Rattle.idl_declared_types.specs.Kinds.{type_at}
use Rattle.idl_declared_types.proofs.Numbered.{built_at, types_along}
use Rattle.idl_declared_types.proofs.numbering.Numbers.path.Given as goal

-- how far it can go down
abbrev reach : Option ℕ → ℕ
reach None = 0
reach (Some k) = suc k

abbrev pub decreases-loop-next : goal.decreases-loop-next
decreases-loop-next l = reach l.next

-- what is left, and then the path back
abbrev pub invariant-loop-next : goal.invariant-loop-next
invariant-loop-next l = built (type_at l.kinds l.of) ≡ built_at l.kinds l.next ++ types_along l.kinds (reverse l.path.items)
