use Rattle.std.proofs.Common.{◌≡◌, length}
use Rattle.test_ndr.specs.Chain.{AreNodes}
use Rattle.test_ndr.proofs.chain.cells.Given as goal

abbrev pub invariant-loop-at : goal.invariant-loop-at
invariant-loop-at l = (length l.cells ≡ l.at) × AreNodes l.cells
