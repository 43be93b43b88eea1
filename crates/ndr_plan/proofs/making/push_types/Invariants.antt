use Rattle.std.proofs.Common.{◌≡◌, ◌++◌, drop}
use Rattle.ndr_code.specs.Code.{type_runs}
use Rattle.ndr_plan.specs.Addresses.{place_in, whole_in}
use Rattle.ndr_plan.proofs.making.push_types.Given as goal

-- what is written, with what is left
abbrev pub invariant-loop-at : goal.invariant-loop-at
invariant-loop-at l =
    l.code ++ type_runs (place_in l.addresses) (whole_in l.addresses) l.interface.types l.at (drop l.at l.interface.types)
    ≡ l.initial.code ++ type_runs (place_in l.addresses) (whole_in l.addresses) l.interface.types 0 l.interface.types
