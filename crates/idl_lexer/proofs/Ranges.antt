-- Parts of a text.
use Rattle.std.proofs.Common.{◌≡◌, ℕ, suc, ◌+◌, ◌-◌, ◌<◌, ◌≤◌, List, [], ◌∷◌, ◌++◌, length, take, drop, ap, arith, ◌∙◌, length-take, length-drop, add-zero, append_assoc}
use Rattle.std.proofs.Math.Seq.{take-add, drop-cons}
use Rattle.std.proofs.lemmas.List.{get_or-take, get_or-drop, drop-drop}
use Rattle.std.specs.Prelude.{slice_range, slice_index}

pub range_at : (text : List ℕ) (from to k : ℕ) → k < to - from → slice_index (slice_range text from to) k ≡ slice_index text (from + k)
range_at text from to k lt = get_or-take (to - from) (drop from text) k 0 lt ∙ get_or-drop from text k 0

pub range_length : (text : List ℕ) (from to : ℕ) → to ≤ length text → length (slice_range text from to) ≡ to - from
range_length text from to h = simp (length-take, length-drop) (omega arith)

pub range_first : (text : List ℕ) (from to : ℕ) → from < to → slice_index (slice_range text from to) 0 ≡ slice_index text from
range_first text from to h = range_at text from to 0 (omega arith) ∙ ap (λ (k : ℕ). slice_index text k) (add-zero from)

pub range_empty : (text : List ℕ) (from to : ℕ) → to ≤ from → slice_range text from to ≡ []
range_empty text from to h = let e : to - from ≡ 0 = omega arith in ap (λ (k : ℕ). take k (drop from text)) e

pub range_cons : (text : List ℕ) (from to : ℕ) → from < to → to ≤ length text → slice_range text from to ≡ slice_index text from ∷ slice_range text (from + 1) to
range_cons text from to lt in_text =
    let n : to - from ≡ suc (to - (from + 1)) = omega arith in
    let e : suc from ≡ from + 1 = omega arith in
    ap (λ (k : ℕ). take k (drop from text)) n
    ∙ (ap (λ (l : List ℕ). take (suc (to - (from + 1))) l) (drop-cons text from 0 (omega arith))
    ∙ ap (λ (k : ℕ). slice_index text from ∷ take (to - (from + 1)) (drop k text)) e)

pub range_split : (text : List ℕ) (from mid to : ℕ) → from ≤ mid → mid ≤ to → slice_range text from to ≡ slice_range text from mid ++ slice_range text mid to
range_split text from mid to h g =
    let n : to - from ≡ (mid - from) + (to - mid) = omega arith in
    let m : from + (mid - from) ≡ mid = omega arith in
    ap (λ (k : ℕ). take k (drop from text)) n
    ∙ (take-add (mid - from) (to - mid) (drop from text)
    ∙ ap (λ (l : List ℕ). take (mid - from) (drop from text) ++ take (to - mid) l) (drop-drop (mid - from) from text ∙ ap (λ (k : ℕ). drop k text) m))

pub range_one : (text : List ℕ) (at : ℕ) → at < length text → slice_range text at (at + 1) ≡ slice_index text at ∷ []
range_one text at h = range_cons text at (at + 1) (omega arith) (omega arith) ∙ ap (λ (l : List ℕ). slice_index text at ∷ l) (range_empty text (at + 1) (at + 1) (omega arith))

-- one octet more, and others after it
pub range_more : (text : List ℕ) (from at : ℕ) (rest : List ℕ) → from ≤ at → at < length text
    → slice_range text from (at + 1) ++ rest ≡ slice_range text from at ++ (slice_index text at ∷ rest)
range_more text from at rest h lt =
    ap (λ (l : List ℕ). l ++ rest) (range_split text from at (at + 1) h (omega arith) ∙ ap (λ (l : List ℕ). slice_range text from at ++ l) (range_one text at lt))
    ∙ append_assoc (slice_range text from at) (slice_index text at ∷ []) rest
