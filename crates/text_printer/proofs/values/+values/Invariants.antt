use Rattle.std.proofs.Common.{◌+◌, ◌*◌, drop}
use Rattle.nd_value.specs.Tree.{more, none, trees, node_count}
use Rattle.nd_value.specs.Seen.{tree_of}
use Rattle.text_printer.proofs.Listing.{Comes, members_text, elements_text}
use Rattle.text_printer.proofs.values.+values.Given as goal

abbrev pub decreases-append_value : goal.decreases-append_value
decreases-append_value l = 4 * node_count (more (tree_of l.val.now) none)

abbrev pub decreases-append_struct : goal.decreases-append_struct
decreases-append_struct l = 4 * node_count (trees l.vals.now) + 2

abbrev pub decreases-append_members : goal.decreases-append_members
decreases-append_members l = 4 * node_count (trees l.vals.now) + 1

abbrev pub decreases-append_array : goal.decreases-append_array
decreases-append_array l = 4 * node_count (trees l.vals.now) + 3

abbrev pub decreases-append_pipe : goal.decreases-append_pipe
decreases-append_pipe l = 4 * node_count (trees l.vals.now) + 3

abbrev pub decreases-append_list : goal.decreases-append_list
decreases-append_list l = 4 * node_count (trees l.vals.now) + 2

abbrev pub decreases-append_elements : goal.decreases-append_elements
decreases-append_elements l = 4 * node_count (trees l.vals.now) + 1

abbrev pub decreases-append_arm : goal.decreases-append_arm
decreases-append_arm l = 4 * node_count (trees l.arm.now) + 1

abbrev pub invariant-append_members-loop-at : goal.invariant-append_members-loop-at
invariant-append_members-loop-at l =
    Comes l.text (members_text l.types l.at (drop l.at l.members) (drop l.at l.vals)) l.initial.text (members_text l.types 0 l.members l.vals)

abbrev pub invariant-append_elements-loop-at : goal.invariant-append_elements-loop-at
invariant-append_elements-loop-at l =
    Comes l.text (elements_text l.types l.elem.0 l.at (drop l.at l.vals)) l.initial.text (elements_text l.types l.elem.0 0 l.vals)
