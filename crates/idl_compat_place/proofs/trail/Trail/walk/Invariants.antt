use Rattle.idl_compat_place.specs.Trails.{IsWalkedTo}
use Rattle.idl_compat_place.proofs.trail.Trail.walk.Given as goal

-- the operations so far are walked
abbrev pub invariant-loop-op : goal.invariant-loop-op
invariant-loop-op l = IsWalkedTo l.older l.newer 0 0 l.fn.self → IsWalkedTo l.older l.newer l.op 0 l.self
