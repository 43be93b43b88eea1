use Rattle.std.proofs.Common.{◌≡◌, ◌++◌, true, drop, option_map}
use Rattle.std.specs.List.{flat_map, list_all}
use Rattle.nd_types.specs.Legal.{is_named}
use Rattle.idl_interface.specs.Made.{arm_with}
use Rattle.idl_interface.proofs.arms.add_arms.Given as goal

-- what is there, with what is left; its names are identifiers if those before were
abbrev pub invariant-loop-label : goal.invariant-loop-label
invariant-loop-label l =
    (l.arms ++ flat_map (arm_with (option_map (λ s. s.now.octets) l.name) l.of) (drop l.label-index l.labels)
    ≡ l.initial.arms ++ flat_map (arm_with (option_map (λ s. s.now.octets) l.name) l.of) l.labels)
    × (list_all (λ a. is_named a.name) l.initial.arms ≡ true → list_all (λ a. is_named a.name) l.arms ≡ true)
