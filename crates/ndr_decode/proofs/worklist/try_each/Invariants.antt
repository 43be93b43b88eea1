use Rattle.ndr_decode.proofs.Tried.{SoFar}
use Rattle.ndr_decode.proofs.worklist.try_each.Given as goal

abbrev pub invariant-loop-at : goal.invariant-loop-at
invariant-loop-at l = SoFar l.fn.kept l.wanted l.at
