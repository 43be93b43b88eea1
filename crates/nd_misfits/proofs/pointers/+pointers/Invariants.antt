use Rattle.std.proofs.Common.{◌+◌, ◌*◌, map, replicate}
use Rattle.nd_value.specs.Tree.{more, none, trees, node_count, count}
use Rattle.nd_value.specs.Seen.{tree_of}
use Rattle.nd_misfits.proofs.PointerWalk.{CollectedTo}
use Rattle.nd_misfits.proofs.pointers.+pointers.Given as goal

abbrev pub decreases-value : goal.decreases-value
decreases-value l = 4 * node_count (more (tree_of l.val.now) none) + 1

abbrev pub decreases-by_form : goal.decreases-by_form
decreases-by_form l = 4 * node_count (more (tree_of l.val.now) none)

abbrev pub decreases-members : goal.decreases-members
decreases-members l = 4 * node_count (trees l.vals.now) + 2

abbrev pub decreases-list : goal.decreases-list
decreases-list l = 4 * node_count (trees l.vals.now) + 3

abbrev pub decreases-elements : goal.decreases-elements
decreases-elements l = 4 * node_count (trees l.vals.now) + 2

abbrev pub decreases-arm : goal.decreases-arm
decreases-arm l = 4 * node_count (trees l.arm.now) + 2

abbrev pub invariant-members-loop-at : goal.invariant-members-loop-at
invariant-members-loop-at l =
    CollectedTo l.types l.fn.home (map (λ f. f.of.0) l.fields) l.vals l.fn.node l.fn.found.items l.at l.next l.found.items

abbrev pub invariant-elements-loop-at : goal.invariant-elements-loop-at
invariant-elements-loop-at l =
    CollectedTo l.types l.fn.home (replicate (count (trees l.vals)) l.fn.elem.0) l.vals l.fn.node l.fn.found.items l.at l.next l.found.items
