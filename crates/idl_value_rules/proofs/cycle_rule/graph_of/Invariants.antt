use Rattle.std.proofs.Common.{◌≡◌, length}
use Rattle.idl_constructs.specs.declared.nodes.Nodes as program_nodes
use Rattle.idl_rule_definitions.specs.Scene.{Scene}
use Rattle.idl_declared_types.specs.SeenTypes.{IsTypes}
use Rattle.idl_value_rules.proofs.CycleLoops.{AreRows}
use Rattle.idl_value_rules.proofs.cycle_rule.graph_of.Given as goal

-- the bodies so far
abbrev pub invariant-loop-body : goal.invariant-loop-body
invariant-loop-body l = (length l.graph ≡ l.body-index) × ((s : Scene) (n : program_nodes.Nodes) → IsTypes s n l.types → AreRows s l.types l.body-index l.graph)
