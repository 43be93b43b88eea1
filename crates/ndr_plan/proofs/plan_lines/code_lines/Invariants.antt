use Rattle.std.proofs.Common.{◌≡◌, ◌++◌, drop}
use Rattle.std.specs.List.{flat_map, enumerate_from}
use Rattle.ndr_plan.specs.Listing.{instr_line}
use Rattle.ndr_plan.proofs.plan_lines.code_lines.Given as goal

-- what is written, with what is left
abbrev pub invariant-loop-at : goal.invariant-loop-at
invariant-loop-at l =
    l.text ++ flat_map instr_line (enumerate_from l.at (drop l.at l.code)) ≡ l.initial.text ++ flat_map instr_line (enumerate_from 0 l.code)
