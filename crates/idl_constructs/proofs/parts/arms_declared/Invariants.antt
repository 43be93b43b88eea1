use Rattle.std.proofs.Common.{◌≡◌, ◌++◌, map, drop}
use Rattle.idl_constructs.specs.SeenNodes.{seen_construct, seen_declared}
use Rattle.idl_constructs.proofs.Rests as rests
use Rattle.idl_constructs.proofs.parts.arms_declared.Given as goal

-- what is there, with what is left
abbrev pub invariant-loop-arm : goal.invariant-loop-arm
invariant-loop-arm l = map seen_declared l.list.items ++ rests.arms_declared (seen_construct l.construct) (drop l.arm-index l.arm-items) ≡ rests.arms_declared (seen_construct l.construct) l.arm-items
