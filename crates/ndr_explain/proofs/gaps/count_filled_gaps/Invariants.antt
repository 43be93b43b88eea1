use Rattle.std.proofs.Common.{◌≡◌, ◌≤◌, ◌+◌, drop}
use Rattle.ndr_explain.specs.Explained.{filled_gaps}
use Rattle.ndr_explain.proofs.gaps.count_filled_gaps.Given as goal

abbrev pub invariant-loop-at : goal.invariant-loop-at
invariant-loop-at l = (l.count ≤ l.at) × (l.count + filled_gaps l.octets (drop l.at l.items.items) ≡ filled_gaps l.octets l.items.items)
