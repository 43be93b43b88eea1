use Rattle.std.proofs.Common.{◌≡◌, take}
use Rattle.nd_flat.proofs.rebuilt.roots.Given as goal

abbrev pub invariant-loop-at : goal.invariant-loop-at
invariant-loop-at l = l.vals ≡ take l.at l.graph.roots
