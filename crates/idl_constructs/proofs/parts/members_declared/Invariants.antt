use Rattle.std.proofs.Common.{◌≡◌, ◌++◌, map, drop}
use Rattle.idl_constructs.specs.SeenNodes.{seen_construct, seen_declared}
use Rattle.idl_constructs.proofs.Rests as rests
use Rattle.idl_constructs.proofs.parts.members_declared.Given as goal

-- what is there, with what is left
abbrev pub invariant-loop-member : goal.invariant-loop-member
invariant-loop-member l =
    map seen_declared l.list.items ++ rests.members_declared (seen_construct l.construct) (drop l.member-index l.member-items) ≡ rests.members_declared (seen_construct l.construct) l.member-items
