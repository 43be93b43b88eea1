use Rattle.std.proofs.Common.{◌≡◌, ◌++◌, drop}
use Rattle.ndr_code.specs.Code.{member_checks}
use Rattle.ndr_plan.proofs.type_code.push_checks.Given as goal

-- what is written, with what is left
abbrev pub invariant-loop-at : goal.invariant-loop-at
invariant-loop-at l = l.code ++ member_checks l.at (drop l.at l.members) ≡ l.initial.code ++ member_checks 0 l.members
