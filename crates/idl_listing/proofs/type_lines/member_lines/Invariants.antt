use Rattle.std.proofs.Common.{◌≡◌, ◌++◌, drop}
use Rattle.idl_listing.specs.Listing.{member_line}
use Rattle.std.specs.List.{flat_map}
use Rattle.idl_listing.proofs.type_lines.member_lines.Given as goal

-- what is written, with what is left
abbrev pub invariant-loop-at : goal.invariant-loop-at
invariant-loop-at l = l.text ++ flat_map (member_line l.members) (drop l.at l.members) ≡ l.initial.text ++ flat_map (member_line l.members) l.members
