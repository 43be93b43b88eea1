use Rattle.std.proofs.Common.{◌≡◌, Option, None, ℕ, replicate}
use Rattle.ndr_plan.proofs.root_numbers.RootNumbers.none.Given as goal

-- so many are without a number
abbrev pub invariant-loop-param : goal.invariant-loop-param
invariant-loop-param l = l.items.items ≡ replicate {A = Option ℕ} l._param None
