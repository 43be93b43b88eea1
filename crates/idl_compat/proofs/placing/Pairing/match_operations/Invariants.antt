use Rattle.idl_compat.specs.Matching.{IsMatched}
use Rattle.idl_compat.proofs.placing.Pairing.match_operations.Given as goal

-- the operations so far are matched
abbrev pub invariant-loop-at : goal.invariant-loop-at
invariant-loop-at l = IsMatched l.interface l.other 0 l.fn.self → IsMatched l.interface l.other l.at l.self
