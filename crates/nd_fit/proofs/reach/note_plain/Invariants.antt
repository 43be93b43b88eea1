use Rattle.std.proofs.Common.{◌≡◌, length}
use Rattle.nd_value.specs.Tree.{flat}
use Rattle.nd_value.specs.Names.{cells_in}
use Rattle.nd_fit.specs.Reach.{searched, note, HaveMarks}
use Rattle.nd_fit.proofs.reach.note_plain.Given as goal

abbrev pub invariant-loop-cell : goal.invariant-loop-cell
invariant-loop-cell l = record {
  have : HaveMarks l.marks.items (cells_in l.walk);
  left : note (cells_in l.walk) (searched l.marks.items l.queue.items) ≡ note (cells_in l.initial.walk) (searched l.initial.marks.items l.initial.queue.items);
}

abbrev pub decreases-loop-cell : goal.decreases-loop-cell
decreases-loop-cell l = length (flat l.walk)
