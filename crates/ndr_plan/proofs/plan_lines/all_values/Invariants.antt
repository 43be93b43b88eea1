use Rattle.std.proofs.Common.{◌≡◌, ◌++◌, drop}
use Rattle.std.specs.List.{flat_map}
use Rattle.ndr_plan.specs.Listing.{values_line}
use Rattle.ndr_plan.proofs.plan_lines.all_values.Given as goal

-- what is written, with what is left
abbrev pub invariant-loop-at : goal.invariant-loop-at
invariant-loop-at l = l.text ++ flat_map values_line (drop l.at l.lists) ≡ l.initial.text ++ flat_map values_line l.lists
