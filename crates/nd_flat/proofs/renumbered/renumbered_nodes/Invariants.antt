use Rattle.std.proofs.Common.{◌≡◌, map, take}
use Rattle.nd_flat.specs.RenumberedNodes.{renumbered_node}
use Rattle.nd_flat.proofs.renumbered.renumbered_nodes.Given as goal

abbrev pub invariant-loop-node : goal.invariant-loop-node
invariant-loop-node l = l.renumbered.items ≡ map (renumbered_node l.numbers) (take l.node-index l.nodes)
