use Rattle.std.proofs.Common.{◌≡◌, ◌++◌, drop}
use Rattle.std.specs.List.{flat_map}
use Rattle.idl_listing.specs.Listing.{behind, attr_words}
use Rattle.idl_listing.proofs.type_lines.attributes.Given as goal

-- what is written, with what is left
abbrev pub invariant-loop-at : goal.invariant-loop-at
invariant-loop-at l = l.text ++ behind (flat_map (attr_words l.members) (drop l.at l.vars)) ≡ l.initial.text ++ behind (flat_map (attr_words l.members) l.vars)
