use Rattle.idl_compat_place.proofs.Trailing.{AreNoOther}
use Rattle.idl_compat_place.proofs.trail.Trail.other.Given as goal

-- the pairs so far share no type with it
abbrev pub invariant-loop-at : goal.invariant-loop-at
invariant-loop-at l = AreNoOther l.self.pairing.pairs l.pair l.at
