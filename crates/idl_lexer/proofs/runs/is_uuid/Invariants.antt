use Rattle.std.proofs.Common.{◌≡◌, ℕ, ◌<◌, length, true}
use Rattle.std.specs.Prelude.{slice_index}
use Rattle.idl_lexer.specs.Pieces.{fits_uuid}
use Rattle.idl_lexer.proofs.runs.is_uuid.Given as goal

abbrev pub invariant-loop-place : goal.invariant-loop-place
invariant-loop-place l = (length l.octets ≡ 36) × ((k : ℕ) → k < l.place → fits_uuid k (slice_index l.octets k) ≡ true)
