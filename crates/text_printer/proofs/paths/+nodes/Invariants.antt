use Rattle.std.proofs.Common.{◌≡◌, ◌+◌, ◌*◌, take}
use Rattle.nd_value.specs.Tree.{more, none, trees, node_count}
use Rattle.nd_value.specs.Seen.{tree_of}
use Rattle.text_printer.proofs.paths.+nodes.Given as goal

abbrev pub decreases-beyond : goal.decreases-beyond
decreases-beyond l = 2 * node_count (more (tree_of l.val.now) none)

abbrev pub decreases-beyond_all : goal.decreases-beyond_all
decreases-beyond_all l = 2 * node_count (trees l.vals.now) + 1

abbrev pub decreases-beyond_arm : goal.decreases-beyond_arm
decreases-beyond_arm l = 2 * node_count (trees l.arm.now) + 1

abbrev pub invariant-beyond_all-loop-at : goal.invariant-beyond_all-loop-at
invariant-beyond_all-loop-at l = l.fn.node ≡ node_count (trees (take l.at l.vals)) + l.left
