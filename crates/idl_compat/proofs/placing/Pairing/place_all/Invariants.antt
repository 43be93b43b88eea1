use Rattle.std.proofs.Common.{take}
use Rattle.idl_compat.specs.Asking.{Includes}
use Rattle.idl_compat.specs.Placing.{IsPaired}
use Rattle.idl_compat.specs.Matching.{HasMet}
use Rattle.idl_compat.proofs.placing.Pairing.place_all.Given as goal

-- the pairs so far are placed
abbrev pub invariant-loop-at : goal.invariant-loop-at
invariant-loop-at l = IsPaired l.fn.self → HasMet (λ m. Includes m (take l.at l.wanted)) l.fn.self l.self
