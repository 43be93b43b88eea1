use Rattle.std.proofs.Common.{◌≡◌, take}
use Rattle.nd_flat.proofs.rebuilt.cells.Given as goal

abbrev pub invariant-loop-at : goal.invariant-loop-at
invariant-loop-at l = l.cells ≡ take l.at l.graph.cells
