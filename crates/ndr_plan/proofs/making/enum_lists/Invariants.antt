use Rattle.std.proofs.Common.{◌≡◌, ◌++◌, drop}
use Rattle.std.specs.List.{flat_map, enumerate_from}
use Rattle.ndr_code.specs.Code.{enum_list, values_of}
use Rattle.ndr_plan.proofs.making.enum_lists.Given as goal

-- what is listed, with what is left
abbrev pub invariant-loop-at : goal.invariant-loop-at
invariant-loop-at l = l.lists ++ flat_map enum_list (enumerate_from l.at (drop l.at l.interface.types)) ≡ values_of l.interface.types
