use Rattle.std.proofs.Common.{◌≡◌, ◌++◌, map, drop}
use Rattle.idl_scope.specs.Seen.{known_in}
use Rattle.idl_interface.specs.Made.{seen_valued}
use Rattle.idl_interface.proofs.Making.{arms_left}
use Rattle.idl_interface.proofs.arms.valued_each.Given as goal

-- what is there, with what is left
abbrev pub invariant-loop-arm : goal.invariant-loop-arm
invariant-loop-arm l = map seen_valued l.list.items ++ arms_left (known_in l.scope) (drop l.arm-index l.arm-items) ≡ arms_left (known_in l.scope) l.arm-items
