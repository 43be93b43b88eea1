use Rattle.std.proofs.Common.{◌≡◌, map, drop}
use Rattle.idl_interface.specs.Made.{seen_valued, default_with}
use Rattle.idl_interface.proofs.arms.default_arm.Given as goal

-- what is left says what all say
abbrev pub invariant-loop-arm : goal.invariant-loop-arm
invariant-loop-arm l = default_with (map seen_valued (drop l.arm-index l.list)) l.rest ≡ default_with (map seen_valued l.list) l.types
