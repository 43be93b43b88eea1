use Rattle.std.proofs.Common.{◌≡◌, true, length, map, take}
use Rattle.idl_scope.specs.Seen.{known_in}
use Rattle.idl_rule_definitions.specs.Types as types
use Rattle.idl_declared_types.specs.Kinds.{type_at, Keeps}
use Rattle.idl_declared_types.specs.SeenNames.{seen_names, are_below}
use Rattle.idl_constructs.specs.SeenNodes.{seen_declared}
use Rattle.idl_typing.proofs.types.part_types.Given as goal

abbrev pub invariant-loop-part : goal.invariant-loop-part
invariant-loop-part l = record {
  keeps : Keeps l.fn.kinds l.kinds;
  within : are_below (length l.kinds) l.numbers.items ≡ true;
  is : map (type_at l.kinds) l.numbers.items ≡ map (types.type_of (known_in l.scope) (seen_names l.fn.kinds l.names)) (map seen_declared (take l.part-index l.parts));
}
