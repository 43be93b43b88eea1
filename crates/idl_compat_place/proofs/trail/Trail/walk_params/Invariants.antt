use Rattle.std.proofs.Common.{◌<◌, length}
use Rattle.idl_compat_place.specs.Trails.{IsWalkedTo}
use Rattle.idl_compat_place.proofs.trail.Trail.walk_params.Given as goal

-- the parameters so far are walked
abbrev pub invariant-loop-part : goal.invariant-loop-part
invariant-loop-part l = l.op < length l.older.operations → IsWalkedTo l.older l.newer l.op 0 l.fn.self → IsWalkedTo l.older l.newer l.op l.part l.self
