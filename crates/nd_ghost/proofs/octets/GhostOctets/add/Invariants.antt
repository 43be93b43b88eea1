use Rattle.std.proofs.Common.{◌≡◌, ◌++◌, drop}
use Rattle.nd_ghost.proofs.Adding.{with_octets}
use Rattle.nd_ghost.proofs.octets.GhostOctets.add.Given as goal

-- with the octets that are left all are added
abbrev pub invariant-loop-octet : goal.invariant-loop-octet
invariant-loop-octet l = with_octets (drop l.octet-index l.octets) l.self ≡ l.fn.self ++ l.octets
