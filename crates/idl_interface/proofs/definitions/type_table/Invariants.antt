use Rattle.std.proofs.Common.{◌≡◌, ◌++◌, true, map, drop}
use Rattle.std.specs.List.{list_all}
use Rattle.nd_types.specs.Legal.{has_named_parts}
use Rattle.nd_types.specs.Kinds.{basic_types}
use Rattle.idl_declared_types.specs.Kinds.{type_at}
use Rattle.idl_rule_definitions.specs.Meaning.{definition}
use Rattle.idl_interface.specs.Made.{scene_in}
use Rattle.idl_interface.proofs.definitions.type_table.Given as goal

-- what is there, with what is left; the names of what is there are identifiers
abbrev pub invariant-loop-own : goal.invariant-loop-own
invariant-loop-own l =
    (l.table ++ map (λ o. definition (scene_in l.program) (type_at l.program.types.now.kinds o.kind)) (drop l.own-index l.own-items)
    ≡ basic_types ++ map (λ o. definition (scene_in l.program) (type_at l.program.types.now.kinds o.kind)) l.own-items)
    × (list_all has_named_parts l.table ≡ true)
