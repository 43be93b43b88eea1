-- What lies past the front of a buffer that is written.
-- `first` is the buffer before anything is written, `old` and `new` are it before and after one more item is, `front` is what its front got.
use Rattle.std.proofs.Common.{◌≡◌, ◌∙◌, ℕ, ◌+◌, ◌≤◌, List, ◌++◌, length, drop, ap, sym, arith}
use Rattle.std.proofs.lemmas.List.{drop-drop}
use Rattle.std.proofs.lemmas.Slice.{drop-append-drop}

-- the rest stays where the front is written in one go
pub rest_kept : (first front : List ℕ) (k n : ℕ) → length front ≡ k → k ≤ n → drop n (front ++ drop k first) ≡ drop n first
rest_kept first front k n same past = drop-append-drop k first front n past same

-- ## Item by item

pub rest_more : (first old new : List ℕ) (i : ℕ) → drop (i + 1) new ≡ drop (i + 1) old → drop i old ≡ drop i first → drop (i + 1) new ≡ drop (i + 1) first
rest_more first old new i more rest = more ∙ sym (drop-drop 1 i old) ∙ ap (λ ys. drop 1 ys) rest ∙ drop-drop 1 i first

pub rest_all : (first new : List ℕ) (i n : ℕ) → n ≤ i → i ≤ n → drop i new ≡ drop i first → drop n new ≡ drop n first
rest_all first new i n past within rest =
    let e : n ≡ i = omega (arith, past, within) in
    ap (λ m. drop m new) e ∙ rest ∙ sym (ap (λ m. drop m first) e)
