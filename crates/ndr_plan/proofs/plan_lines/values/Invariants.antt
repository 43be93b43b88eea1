use Rattle.std.proofs.Common.{◌≡◌, ◌++◌, drop, map}
use Rattle.std.specs.Fmt.{signed_decimal}
use Rattle.idl_listing.specs.Listing.{behind}
use Rattle.ndr_plan.proofs.plan_lines.values.Given as goal

-- what is written, with what is left
abbrev pub invariant-loop-at : goal.invariant-loop-at
invariant-loop-at l = l.text ++ behind (map signed_decimal (drop l.at l.values)) ≡ l.initial.text ++ behind (map signed_decimal l.values)
