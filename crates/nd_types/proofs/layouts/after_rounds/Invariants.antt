use Rattle.std.proofs.Common.{◌≡◌}
use Rattle.nd_types.specs.Rounds.{layouts_after}
use Rattle.nd_types.proofs.layouts.after_rounds.Given as goal

-- what is known after the rounds so far
abbrev pub invariant-loop-round : goal.invariant-loop-round
invariant-loop-round l = l.layouts.items ≡ layouts_after l._round l.types
