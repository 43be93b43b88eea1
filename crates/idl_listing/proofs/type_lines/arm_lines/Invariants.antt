use Rattle.std.proofs.Common.{◌≡◌, ◌++◌, drop}
use Rattle.idl_listing.specs.Listing.{arm_line}
use Rattle.std.specs.List.{flat_map}
use Rattle.idl_listing.proofs.type_lines.arm_lines.Given as goal

-- what is written, with what is left
abbrev pub invariant-loop-at : goal.invariant-loop-at
invariant-loop-at l = l.text ++ flat_map arm_line (drop l.at l.arms) ≡ l.initial.text ++ flat_map arm_line l.arms
