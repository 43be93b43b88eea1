use Rattle.std.proofs.Common.{◌≡◌, length, map, Option, None, ℕ, replicate}
use Rattle.nd_types.specs.Roots.{root_value}
use Rattle.ndr_plan.specs.Numbers.{all_numbered}
use Rattle.ndr_plan.proofs.root_numbers.root_numbers.Given as goal

-- the parameters that are the roots that were given have their numbers
abbrev pub invariant-loop-root : goal.invariant-loop-root
invariant-loop-root l =
    (l.numbers.items.items ≡ all_numbered (replicate {A = Option ℕ} (length l.of.operation.now.params) None) 0 (map root_value l.yielded))
    × (l.number ≡ length (map root_value l.yielded))
