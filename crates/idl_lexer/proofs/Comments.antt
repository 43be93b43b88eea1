-- Where a comment ends.
use Rattle.std.proofs.Common.{◌≡◌, ℕ, ◌+◌, ◌-◌, ◌<◌, ◌≤◌, List, length, sym, ap, arith, ◌∙◌}
use Rattle.std.specs.Prelude.{slice_index, slice_range}
use Rattle.idl_lexer.specs.Pieces.{IsComment}
use Rattle.idl_lexer.specs.Verdict.{OpensComment}
use Rattle.idl_lexer.proofs.Ranges.{range_at, range_length, range_first}

-- no `*/` is between two places
abbrev pub NoEnd : List ℕ → ℕ → ℕ → Type 0
NoEnd text from to = (k : ℕ) → from ≤ k → k < to → slice_index text k ≡ 42 → slice_index text (k + 1) ≡ 47 → ⊥

pub comment_found : (text : List ℕ) (from at : ℕ) → OpensComment text from → from + 2 ≤ at → at + 2 ≤ length text → NoEnd text (from + 2) at
    → slice_index text at ≡ 42 → slice_index text (at + 1) ≡ 47 → (at + 2 ≤ length text) × IsComment (slice_range text from (at + 2))
comment_found text from at opens after within before star slash =
    let size = range_length text from (at + 2) within in
    let last : from + (length (slice_range text from (at + 2)) - 2) ≡ at = omega arith in
    let past : from + (length (slice_range text from (at + 2)) - 1) ≡ at + 1 = omega arith in (
      within,
      record {
        long = omega arith;
        opens = (range_first text from (at + 2) (omega arith) ∙ opens.0, range_at text from (at + 2) 1 (omega arith) ∙ opens.1);
        closes = (
          range_at text from (at + 2) (length (slice_range text from (at + 2)) - 2) (omega arith) ∙ (ap (λ (k : ℕ). slice_index text k) last ∙ star),
          range_at text from (at + 2) (length (slice_range text from (at + 2)) - 1) (omega arith) ∙ (ap (λ (k : ℕ). slice_index text k) past ∙ slash),
        );
        first = λ k two lt s t.
            before (from + k) (omega arith) (omega arith) (sym (range_at text from (at + 2) k (omega arith)) ∙ s)
            (ap (λ (i : ℕ). slice_index text i) (let e : from + k + 1 ≡ from + (k + 1) = omega arith in e) ∙ (sym (range_at text from (at + 2) (k + 1) (omega arith)) ∙ t));
      },
    )

pub comment_none : (text : List ℕ) (from : ℕ) → from + 2 ≤ length text → NoEnd text (from + 2) (length text - 1) → (to : ℕ) → to ≤ length text → IsComment (slice_range text from to) → ⊥
comment_none text from room before to h is =
    let size = range_length text from to h in
    let last : from + (length (slice_range text from to) - 2) ≡ to - 2 = omega (arith, is.long) in
    let past : from + (length (slice_range text from to) - 1) ≡ to - 2 + 1 = omega (arith, is.long) in
    before (to - 2) (omega (arith, is.long)) (omega (arith, is.long))
    (sym (ap (λ (k : ℕ). slice_index text k) last) ∙ (sym (range_at text from to (length (slice_range text from to) - 2) (omega (arith, is.long))) ∙ is.closes.0))
    (sym (ap (λ (k : ℕ). slice_index text k) past) ∙ (sym (range_at text from to (length (slice_range text from to) - 1) (omega (arith, is.long))) ∙ is.closes.1))
