use Rattle.std.proofs.Common.{◌≡◌, ◌≤◌, ◌+◌, ◌*◌, ℕ}
use Rattle.ndr_code.proofs.Measured.{IsMeasured}
use Rattle.ndr_code.proofs.lengths.length_of.Given as goal

abbrev pub invariant-loop-left : goal.invariant-loop-left
invariant-loop-left l = ((k : ℕ) → IsMeasured l.code l.pc (8 * k + l.at) l.members l.next l.left l.len) × ((l.len ≤ 64) × (l.next + l.left ≡ l.pc + l.members))

abbrev pub decreases-loop-left : goal.decreases-loop-left
decreases-loop-left l = l.left
