use Rattle.std.proofs.Common.{◌≤◌, ◌+◌, ◌*◌, ◌-◌, length, map, replicate}
use Rattle.library_nodes.proofs.Lists.{Came}
use Rattle.library_nodes.proofs.values.+values.Given as goal

abbrev pub decreases-value : goal.decreases-value
decreases-value l = 8 * length l.reader.now.nodes

abbrev pub decreases-by_type : goal.decreases-by_type
decreases-by_type l = 8 * length l.reader.now.nodes + 7

abbrev pub decreases-structure : goal.decreases-structure
decreases-structure l = 8 * length l.reader.now.nodes + 2

abbrev pub decreases-member_values : goal.decreases-member_values
decreases-member_values l = 8 * length l.reader.now.nodes + 1

abbrev pub decreases-array : goal.decreases-array
decreases-array l = 8 * length l.reader.now.nodes + 3

abbrev pub decreases-pipe : goal.decreases-pipe
decreases-pipe l = 8 * length l.reader.now.nodes + 3

abbrev pub decreases-elements : goal.decreases-elements
decreases-elements l = 8 * length l.reader.now.nodes + 2

abbrev pub decreases-element_values : goal.decreases-element_values
decreases-element_values l = 8 * length l.reader.now.nodes + 1

abbrev pub decreases-union : goal.decreases-union
decreases-union l = 8 * length l.reader.now.nodes + 3

abbrev pub decreases-arm_value : goal.decreases-arm_value
decreases-arm_value l = 8 * length l.reader.now.nodes + 2

abbrev pub decreases-boxed_value : goal.decreases-boxed_value
decreases-boxed_value l = 8 * length l.reader.now.nodes + 1

-- the members so far
abbrev pub invariant-member_values-loop-at : goal.invariant-member_values-loop-at
invariant-member_values-loop-at l = Came l.fn.types (map (λ f. f.of.0) l.members) l.at l.fn.reader l.vals l.reader

-- the elements so far
abbrev pub invariant-element_values-loop-alloc : goal.invariant-element_values-loop-alloc
invariant-element_values-loop-alloc l = Came l.fn.types (replicate l.count l.fn.elem.0) (length l.vals) l.fn.reader l.vals l.reader × (length l.vals ≤ l.count)

abbrev pub decreases-element_values-loop-alloc : goal.decreases-element_values-loop-alloc
decreases-element_values-loop-alloc l = l.count - length l.vals
