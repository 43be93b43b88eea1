use Rattle.std.proofs.Common.{◌≡◌, map, take}
use Rattle.std.specs.List.{enumerate_from}
use Rattle.ndr_plan.proofs.Addressed.{address_at, code_before}
use Rattle.ndr_plan.proofs.making.addresses.Given as goal

-- the code of the types before this one, and their addresses
abbrev pub invariant-loop-at : goal.invariant-loop-at
invariant-loop-at l =
    (l.code ≡ code_before l.interface.types l.at) × (l.items.items ≡ map (address_at l.interface.types) (enumerate_from 0 (take l.at l.interface.types)))
