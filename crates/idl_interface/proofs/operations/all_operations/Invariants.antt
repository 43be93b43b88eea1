use Rattle.std.proofs.Common.{◌≡◌, ◌++◌, true, map, drop}
use Rattle.std.specs.List.{list_all}
use Rattle.nd_types.specs.Legal.{has_names}
use Rattle.idl_declared_types.specs.SeenOperations.{called}
use Rattle.idl_interface.specs.Made.{scene_in, operation_made}
use Rattle.idl_interface.proofs.operations.all_operations.Given as goal

-- what is there, with what is left; the names of what is there are identifiers
abbrev pub invariant-loop-noted : goal.invariant-loop-noted
invariant-loop-noted l =
    (l.operations ++ map (operation_made (scene_in l.program)) (drop l.noted-index (called (scene_in l.program)))
    ≡ map (operation_made (scene_in l.program)) (called (scene_in l.program)))
    × (list_all has_names l.operations ≡ true)
