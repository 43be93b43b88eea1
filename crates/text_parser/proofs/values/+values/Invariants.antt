use Rattle.std.proofs.Common.{◌+◌, ◌*◌, length, take}
use Rattle.text_parser.specs.ValueParts.{HaveCome}
use Rattle.text_parser.proofs.Members.{MembersCame}
use Rattle.text_parser.proofs.values.+values.Given as goal

abbrev pub decreases-value : goal.decreases-value
decreases-value l = 8 * length l.text.now + 5

abbrev pub decreases-by_type : goal.decreases-by_type
decreases-by_type l = 8 * length l.text.now + 4

abbrev pub decreases-structure : goal.decreases-structure
decreases-structure l = 8 * length l.text.now + 1

abbrev pub decreases-member : goal.decreases-member
decreases-member l = 8 * length l.text.now + 1

abbrev pub decreases-array : goal.decreases-array
decreases-array l = 8 * length l.text.now + 3

abbrev pub decreases-pipe : goal.decreases-pipe
decreases-pipe l = 8 * length l.text.now + 3

abbrev pub decreases-elements : goal.decreases-elements
decreases-elements l = 8 * length l.text.now + 2

abbrev pub decreases-listed : goal.decreases-listed
decreases-listed l = 8 * length l.text.now + 1

abbrev pub decreases-items : goal.decreases-items
decreases-items l = 8 * length l.text.now + 7

abbrev pub decreases-values_of : goal.decreases-values_of
decreases-values_of l = 8 * length l.text.now + 6

abbrev pub decreases-union : goal.decreases-union
decreases-union l = 8 * length l.text.now + 1

abbrev pub decreases-arm_value : goal.decreases-arm_value
decreases-arm_value l = 8 * length l.text.now + 6

-- the members so far
abbrev pub invariant-structure-loop-at : goal.invariant-structure-loop-at
invariant-structure-loop-at l = MembersCame l.fn.under.version l.fn.under.types.now (take l.at l.members) l.fn.names l.initial.rest l.vals l.names l.rest

-- the elements so far
abbrev pub invariant-values_of-loop-next : goal.invariant-values_of-loop-next
invariant-values_of-loop-next l = HaveCome l.fn.under.version l.fn.under.types.now l.fn.elem.0 l.fn.names l.text l.vals l.names l.rest

abbrev pub decreases-values_of-loop-next : goal.decreases-values_of-loop-next
decreases-values_of-loop-next l = length l.rest
