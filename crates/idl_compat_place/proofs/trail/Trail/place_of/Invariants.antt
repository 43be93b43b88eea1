use Rattle.std.proofs.Common.{ℕ, ◌≤◌, length}
use Rattle.nd_types.specs.declared.interface.Interface.{Interface}
use Rattle.idl_compat.specs.declared.pairs.TypePair.{TypePair}
use Rattle.idl_compat_place.specs.Trails.{IsTrail, IsOrigin}
use Rattle.idl_compat_place.proofs.Leading.{IsOnTheWay}
use Rattle.idl_compat_place.proofs.trail.Trail.place_of.Given as goal

-- the steps so far lead from the pair of an origin to the last
abbrev pub invariant-loop-turn : goal.invariant-loop-turn
invariant-loop-turn l = (old new : Interface) (k n base before : ℕ) (pair : TypePair) → IsTrail old new k n base l.self → before ≤ length l.self.pairing.pairs
    → IsOrigin old new k n base l.self.pairing.pairs before pair l.fn.origin → IsOnTheWay old new k n base before l.self pair l.fn.origin l._turn l.origin l.steps
