use Rattle.std.proofs.Common.{◌≡◌, ◌++◌, ◌∷◌, [], drop}
use Rattle.nd_base.proofs.Names.{with_octets}
use Rattle.nd_base.proofs.asked.GhostNames.add.Given as goal

-- with the octets that are left it is the whole name
abbrev pub invariant-loop-octet : goal.invariant-loop-octet
invariant-loop-octet l = with_octets (drop l.octet-index l.name) l.self ≡ l.fn.self ++ l.name ∷ []
