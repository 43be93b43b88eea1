use Rattle.std.proofs.Common.{◌≡◌, ℕ, ◌-◌, ◌<◌, ◌≤◌, length, true}
use Rattle.std.specs.Prelude.{slice_index}
use Rattle.nd_base.specs.Text.{is_word_octet}
use Rattle.idl_lexer.proofs.runs.run_end.Given as goal

abbrev pub invariant-loop-end : goal.invariant-loop-end
invariant-loop-end l = (l.from ≤ l.end) × (l.end ≤ length l.text) × ((k : ℕ) → l.from ≤ k → k < l.end → is_word_octet (slice_index l.text k) ≡ true)

abbrev pub decreases-loop-end : goal.decreases-loop-end
decreases-loop-end l = length l.text - l.end
