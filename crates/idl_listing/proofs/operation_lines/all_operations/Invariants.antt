use Rattle.std.proofs.Common.{◌≡◌, ◌++◌, drop}
use Rattle.std.specs.List.{flat_map, enumerate_from}
use Rattle.idl_listing.specs.Listing.{operation_lines}
use Rattle.idl_listing.proofs.operation_lines.all_operations.Given as goal

-- what is written, with what is left
abbrev pub invariant-loop-at : goal.invariant-loop-at
invariant-loop-at l =
    l.text ++ flat_map (operation_lines l.interface.types) (enumerate_from l.at (drop l.at l.interface.operations))
    ≡ l.initial.text ++ flat_map (operation_lines l.interface.types) (enumerate_from 0 l.interface.operations)
