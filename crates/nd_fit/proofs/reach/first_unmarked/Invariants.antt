use Rattle.std.proofs.Common.{◌≡◌, ◌≤◌, ◌<◌, ℕ, get_or, true, false}
use Rattle.nd_fit.proofs.reach.first_unmarked.Given as goal

abbrev pub invariant-loop-at : goal.invariant-loop-at
invariant-loop-at l = (c : ℕ) → 0 < c → c ≤ l.at → get_or l.marks c false ≡ true
