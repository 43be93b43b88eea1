use Rattle.std.proofs.Common.{◌≡◌, ◌++◌, map, drop}
use Rattle.nd_base.specs.Text.{joined}
use Rattle.nd_base.proofs.text.join.Given as goal

abbrev pub invariant-loop-piece : goal.invariant-loop-piece
invariant-loop-piece l = l.joined ++ joined (map (λ p. p.now) (drop l.piece-index l.pieces)) ≡ joined (map (λ p. p.now) l.pieces)
