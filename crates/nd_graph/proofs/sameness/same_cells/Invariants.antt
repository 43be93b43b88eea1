use Rattle.std.proofs.Common.{◌<◌, ℕ, get_or}
use Rattle.nd_graph.specs.Alike.{number_by, IsSameCell}
use Rattle.nd_graph.proofs.sameness.same_cells.Given as goal

abbrev pub invariant-loop-at : goal.invariant-loop-at
invariant-loop-at l = (k : ℕ) → k < l.at
    → IsSameCell (number_by l.left.numbers.items) (number_by l.right.numbers.items) l.a l.b (get_or l.left.cells.items k 0) (get_or l.right.cells.items k 0)
