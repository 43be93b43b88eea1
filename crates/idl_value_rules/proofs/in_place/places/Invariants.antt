use Rattle.std.proofs.Common.{◌≡◌, [], length}
use Rattle.idl_constructs.specs.declared.nodes.Nodes as program_nodes
use Rattle.idl_rule_definitions.specs.Scene.{Scene}
use Rattle.idl_declared_types.specs.SeenTypes.{IsTypes}
use Rattle.idl_declared_types.proofs.PlacesFilled.{Each, HeldBy}
use Rattle.idl_value_rules.proofs.in_place.places.Given as goal

-- the types so far, each with what it holds
abbrev pub invariant-loop-number : goal.invariant-loop-number
invariant-loop-number l =
    (length l.graph ≡ l.number)
    × ((s : Scene) (n : program_nodes.Nodes) → IsTypes s n l.types → length l.types.kinds ≡ l.count → Each (HeldBy s l.types.kinds l.count) [] l.graph)
