use Rattle.std.proofs.Common.{◌≡◌, ◌++◌, length, map}
use Rattle.nd_types.specs.Roots.{root_value}
use Rattle.ndr_plan.specs.Numbers.{number_in}
use Rattle.ndr_plan.specs.Checks.{check_by, checks_by}
use Rattle.ndr_plan.proofs.side_checks.push_roots.Given as goal

-- the agreements of the roots that were given are written
abbrev pub invariant-loop-root : goal.invariant-loop-root
invariant-loop-root l =
    let check = check_by l.side.side (number_in l.numbers.here.items.items) (number_in l.numbers.asked.items.items) in
    (l.code ≡ l.initial.code ++ checks_by check l.side.operation.now 0 (map root_value l.yielded)) × (l.field ≡ length (map root_value l.yielded))
