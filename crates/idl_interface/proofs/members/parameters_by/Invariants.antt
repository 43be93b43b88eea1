use Rattle.std.proofs.Common.{◌≡◌, ◌++◌, true, map, drop}
use Rattle.std.specs.List.{list_all}
use Rattle.nd_base.specs.Text.{is_identifier}
use Rattle.idl_constructs.specs.SeenNodes.{seen_declared}
use Rattle.idl_interface.specs.Made.{each_with, parameter_by}
use Rattle.idl_interface.proofs.members.parameters_by.Given as goal

-- what is there, with what is left; the names of what is there are identifiers
abbrev pub invariant-loop-index : goal.invariant-loop-index
invariant-loop-index l =
    (l.parameters ++ each_with (parameter_by l.table) (map seen_declared (drop l.index l.list)) (drop l.index l.types)
    ≡ each_with (parameter_by l.table) (map seen_declared l.list) l.types)
    × (list_all (λ p. is_identifier p.field.name) l.parameters ≡ true)
