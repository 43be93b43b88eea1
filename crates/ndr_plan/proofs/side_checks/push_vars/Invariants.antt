use Rattle.std.proofs.Common.{◌≡◌, ◌++◌, drop}
use Rattle.std.specs.List.{flat_map}
use Rattle.ndr_plan.specs.Numbers.{number_in}
use Rattle.ndr_plan.specs.Checks.{check_by}
use Rattle.ndr_plan.proofs.side_checks.push_vars.Given as goal

-- what is written, with what is left
abbrev pub invariant-loop-at : goal.invariant-loop-at
invariant-loop-at l =
    let check = check_by l.fn.side (number_in l.numbers.here.items.items) (number_in l.numbers.asked.items.items) l.fn.field in
    l.code ++ flat_map check (drop l.at l.vars) ≡ l.initial.code ++ flat_map check l.vars
