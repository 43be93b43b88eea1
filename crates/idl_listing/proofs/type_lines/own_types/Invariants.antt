use Rattle.std.proofs.Common.{◌≡◌, ◌++◌, drop}
use Rattle.std.specs.List.{flat_map, enumerate_from}
use Rattle.idl_listing.specs.Listing.{type_lines, own_types}
use Rattle.idl_listing.proofs.type_lines.own_types.Given as goal

-- what is written, with what is left
abbrev pub invariant-loop-at : goal.invariant-loop-at
invariant-loop-at l =
    l.text ++ flat_map (type_lines l.interface.types) (enumerate_from l.at (drop l.at l.interface.types))
    ≡ l.initial.text ++ flat_map (type_lines l.interface.types) (own_types l.interface.types)
