use Rattle.std.proofs.Common.{◌+◌, ◌*◌}
use Rattle.nd_value.specs.Tree.{more, none, trees, node_count}
use Rattle.nd_value.specs.Seen.{tree_of}
use Rattle.nd_fit.proofs.Flattening.{AddedTo}
use Rattle.nd_fit.proofs.values.+values.Given as goal

abbrev pub decreases-add_value : goal.decreases-add_value
decreases-add_value l = 3 * node_count (more (tree_of l.val.now) none)

abbrev pub decreases-add_elements : goal.decreases-add_elements
decreases-add_elements l = 3 * node_count (trees l.vals.now) + 2

abbrev pub decreases-add_values : goal.decreases-add_values
decreases-add_values l = 3 * node_count (trees l.vals.now) + 1

abbrev pub decreases-add_arm : goal.decreases-add_arm
decreases-add_arm l = 3 * node_count (trees l.arm.now) + 1

abbrev pub invariant-add_values-loop-at : goal.invariant-add_values-loop-at
invariant-add_values-loop-at l = AddedTo l.vals l.fn.builder l.at l.builder
