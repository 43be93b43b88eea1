use Rattle.std.proofs.Common.{◌≡◌, ◌++◌, true, map, drop}
use Rattle.std.specs.List.{list_all}
use Rattle.nd_base.specs.Text.{is_identifier}
use Rattle.idl_constructs.specs.SeenNodes.{seen_declared}
use Rattle.idl_interface.specs.Made.{each_with, field_by}
use Rattle.idl_interface.proofs.members.fields_by.Given as goal

-- what is there, with what is left; the names of what is there are identifiers
abbrev pub invariant-loop-index : goal.invariant-loop-index
invariant-loop-index l =
    (l.fields ++ each_with (field_by l.table) (map seen_declared (drop l.index l.list)) (drop l.index l.types)
    ≡ each_with (field_by l.table) (map seen_declared l.list) l.types)
    × (list_all (λ f. is_identifier f.name) l.fields ≡ true)
