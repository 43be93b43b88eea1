use Rattle.std.proofs.Common.{◌≡◌, length}
use Rattle.idl_compat.specs.Placing.{IsPaired}
use Rattle.idl_compat.specs.Matching.{AreExpanded}
use Rattle.idl_compat.proofs.Expanding.{IsExpanding}
use Rattle.idl_compat.proofs.placing.Pairing.match_types.Given as goal

-- the types of the pairs so far are alike
abbrev pub invariant-loop-at : goal.invariant-loop-at
invariant-loop-at l = IsPaired l.fn.self → length l.fn.self.forward ≡ length l.types → AreExpanded l.types l.others l.fn.self.pairs l.fn.from
    → IsExpanding l.types l.others l.fn.self l.self l.at
