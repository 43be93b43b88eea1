use Rattle.std.proofs.Common.{◌≡◌, ◌++◌, true, map, drop}
use Rattle.std.specs.List.{list_all}
use Rattle.nd_types.specs.Legal.{is_named}
use Rattle.idl_interface.specs.Made.{seen_valued, arms_with}
use Rattle.idl_interface.proofs.arms.labelled_arms.Given as goal

-- what is there, with what is left; the names of what is there are identifiers
abbrev pub invariant-loop-arm : goal.invariant-loop-arm
invariant-loop-arm l =
    (l.arms ++ arms_with (map seen_valued (drop l.arm-index l.list)) l.rest ≡ arms_with (map seen_valued l.list) l.types)
    × (list_all (λ a. is_named a.name) l.arms ≡ true)
