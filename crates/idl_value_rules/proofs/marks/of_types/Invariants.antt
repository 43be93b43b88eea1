use Rattle.std.proofs.Common.{◌≡◌, length}
use Rattle.idl_constructs.specs.declared.nodes.Nodes as program_nodes
use Rattle.idl_rule_definitions.specs.Scene.{Scene}
use Rattle.idl_declared_types.specs.SeenTypes.{IsTypes}
use Rattle.idl_value_rules.proofs.MarkLists.{MarksTo}
use Rattle.idl_value_rules.proofs.marks.of_types.Given as goal

-- the marks of the types so far
abbrev pub invariant-loop-number : goal.invariant-loop-number
invariant-loop-number l =
    (length l.marks.items.items ≡ l.number)
    × ((s : Scene) (n : program_nodes.Nodes) → IsTypes s n l.types → MarksTo s l.types.kinds l.number l.marks.items.items)
