use Rattle.std.proofs.Common.{◌≤◌, ◌+◌, ◌-◌, ◌*◌, ℕ, List, length, map, drop, replicate}
use Rattle.nd_value.specs.Tree.{Trees, flat}
use Rattle.text_printer.specs.Texts.{listed, member_texts}
use Rattle.text_printer.specs.Walks.{Writes}
use Rattle.text_printer.proofs.walked.+walked.Given as goal

abbrev pub decreases-append_next : goal.decreases-append_next
decreases-append_next l = 8 * length (flat l.walk.now)

abbrev pub decreases-append_node : goal.decreases-append_node
decreases-append_node l = 8 * length (flat l.walk.now) + 5

abbrev pub decreases-append_struct : goal.decreases-append_struct
decreases-append_struct l = 8 * length (flat l.walk.now) + 2

abbrev pub decreases-append_members : goal.decreases-append_members
decreases-append_members l = 8 * length (flat l.walk.now) + 1

abbrev pub decreases-append_array : goal.decreases-append_array
decreases-append_array l = 8 * length (flat l.walk.now) + 4

abbrev pub decreases-append_pipe : goal.decreases-append_pipe
decreases-append_pipe l = 8 * length (flat l.walk.now) + 4

abbrev pub decreases-append_list : goal.decreases-append_list
decreases-append_list l = 8 * length (flat l.walk.now) + 3

abbrev pub decreases-append_elements : goal.decreases-append_elements
decreases-append_elements l = 8 * length (flat l.walk.now) + 2

abbrev pub decreases-append_some : goal.decreases-append_some
decreases-append_some l = 8 * length (flat l.walk.now) + 1

abbrev pub decreases-append_union : goal.decreases-append_union
decreases-append_union l = 8 * length (flat l.walk.now) + 2

abbrev pub decreases-append_arm : goal.decreases-append_arm
decreases-append_arm l = 8 * length (flat l.walk.now) + 1

abbrev pub invariant-append_members-loop-at : goal.invariant-append_members-loop-at
invariant-append_members-loop-at l = record {
  written : (text' : List ℕ) (walk' : Trees)
      → Writes l.types (map (λ f. f.of.0) (drop l.at l.members)) (λ xs. listed l.at (member_texts (drop l.at l.members) xs)) l.text l.walk text' walk'
      → Writes l.types (map (λ f. f.of.0) l.members) (λ xs. listed 0 (member_texts l.members xs)) l.initial.text l.initial.walk text' walk';
  fewer : length (flat l.walk) ≤ length (flat l.initial.walk);
}

abbrev pub invariant-append_elements-loop-turn : goal.invariant-append_elements-loop-turn
invariant-append_elements-loop-turn l = record {
  turns : l._turn ≤ l.at;
  most : l.at ≤ l.count;
  written : (text' : List ℕ) (walk' : Trees) → Writes l.types (replicate (l.count - l.at) l.elem.0) (listed l.at) l.text l.walk text' walk'
      → Writes l.types (replicate l.count l.elem.0) (listed 0) l.initial.text l.initial.walk text' walk';
  fewer : length (flat l.walk) ≤ length (flat l.initial.walk);
}
