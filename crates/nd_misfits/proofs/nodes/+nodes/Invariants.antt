use Rattle.std.proofs.Common.{◌+◌, ◌*◌, map, replicate}
use Rattle.nd_value.specs.Tree.{more, none, trees, node_count, count}
use Rattle.nd_value.specs.Seen.{tree_of}
use Rattle.nd_misfits.specs.Searched.{kids_in}
use Rattle.nd_misfits.proofs.NodeWalk.{Walked}
use Rattle.nd_misfits.proofs.nodes.+nodes.Given as goal

abbrev pub decreases-value : goal.decreases-value
decreases-value l = 3 * node_count (more (tree_of l.val.now) none) + 2

abbrev pub decreases-children : goal.decreases-children
decreases-children l = 3 * node_count (kids_in (tree_of l.val.now)) + 4

abbrev pub decreases-members : goal.decreases-members
decreases-members l = 3 * node_count (trees l.vals.now) + 3

abbrev pub decreases-elements : goal.decreases-elements
decreases-elements l = 3 * node_count (trees l.vals.now) + 3

abbrev pub decreases-arm : goal.decreases-arm
decreases-arm l = 3 * node_count (trees l.arm.now) + 3

abbrev pub invariant-members-loop-at : goal.invariant-members-loop-at
invariant-members-loop-at l = Walked l.types l.graph (map (λ f. f.of.0) l.fields) l.vals l.fn.node l.at l.next

abbrev pub invariant-elements-loop-at : goal.invariant-elements-loop-at
invariant-elements-loop-at l = Walked l.types l.graph (replicate (count (trees l.vals)) l.fn.elem.0) l.vals l.fn.node l.at l.next
