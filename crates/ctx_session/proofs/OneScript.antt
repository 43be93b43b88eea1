-- Octets are one script, or have one first line that is none.
use Rattle.std.proofs.Common.{◌≡◌, ◌⊎◌, ◌∙◌, ap, sym, refl, subst, ℕ, zero, suc, ◌+◌, ◌≤◌, List, [], ◌∷◌, length, take, drop, Option, Some, None, arith, length-drop, inl, inr}
use Rattle.std.proofs.lemmas.Option.{same_Some}
use Rattle.ctx_session.specs.Script.{Line, line_of, feed_of, BeginsWith, AreLines, none, more, IsOther, IsBadLine, here, later}
use Rattle.ctx_session.proofs.Scripts.{never_other}

one_place : (octets : List ℕ) (at i : ℕ) (line l : Line) → BeginsWith octets at line → BeginsWith octets i l → (at ≡ i) × (line ≡ l)
one_place octets at i line l b c =
    let same = same_Some at i (sym b.feed ∙ c.feed) in
    (same, same_Some line l (sym b.line_is ∙ ap (λ k. line_of (take k octets)) same ∙ c.line_is))

pub never_both : (octets : List ℕ) (lines : List Line) (n : ℕ) → AreLines octets lines → IsBadLine octets n → ⊥
never_both _ _ _ none (here o) = o.some refl
never_both _ _ _ none (later b p) = let e = b.feed in cc
never_both octets _ _ (more {at = at} {line = line} b p) (here o) = never_other octets (at, line, b) o
never_both octets _ _ (more {at = at} {line = line} {lines = lines} b p) (later {at = i} {n = n} {line = l} c q) =
    let s = one_place octets at i line l b c in
    never_both (drop (at + 1) octets) lines n p (subst (λ k. IsBadLine (drop (k + 1) octets) n) (sym s.0) q)

pub one_script : (octets : List ℕ) (lines others : List Line) → AreLines octets lines → AreLines octets others → lines ≡ others
one_script _ _ _ none none = refl
one_script _ _ _ none (more b p) = let e = b.feed in cc
one_script _ _ _ (more b p) none = let e = b.feed in cc
one_script octets _ _ (more {at = at} {line = line} {lines = ls} b p) (more {at = i} {line = l} {lines = ms} c q) =
    let s = one_place octets at i line l b c in
    let rest = one_script (drop (at + 1) octets) ls ms p (subst (λ k. AreLines (drop (k + 1) octets) ms) (sym s.0) q) in
    ap (λ x. x ∷ ls) s.1 ∙ ap (λ x. l ∷ x) rest

pub one_bad_line : (octets : List ℕ) (m n : ℕ) → IsBadLine octets m → IsBadLine octets n → m ≡ n
one_bad_line _ _ _ (here o) (here p) = refl
one_bad_line octets _ _ (here o) (later {at = i} {line = l} c q) = absurd (never_other octets (i, l, c) o)
one_bad_line octets _ _ (later {at = i} {line = l} c q) (here o) = absurd (never_other octets (i, l, c) o)
one_bad_line octets _ _ (later {at = at} {n = m} {line = line} b p) (later {at = i} {n = n} {line = l} c q) =
    let s = one_place octets at i line l b c in
    ap suc (one_bad_line (drop (at + 1) octets) m n p (subst (λ k. IsBadLine (drop (k + 1) octets) n) (sym s.0) q))

abbrev pub IsOneOf : List ℕ → Type 0
IsOneOf octets = ((lines : List Line) × AreLines octets lines) ⊎ ((n : ℕ) × IsBadLine octets n)

by_length : (fuel : ℕ) (octets : List ℕ) → length octets ≤ fuel → IsOneOf octets
by_length fuel [] h = inl ([], none)
by_length zero (x ∷ xs) h = absurd (omega (arith, h))
by_length (suc fuel) (x ∷ xs) h = by_feed (feed_of (x ∷ xs)) refl (λ r k. by_length fuel r k)
  where
    after_line : (at : ℕ) (line : Line) → BeginsWith (x ∷ xs) at line → IsOneOf (drop (at + 1) (x ∷ xs)) → IsOneOf (x ∷ xs)
    after_line at line b (inl (lines, p)) = inl (line ∷ lines, more b p)
    after_line at line b (inr (n, p)) = inr (suc n, later b p)

    by_line : (at : ℕ) → feed_of (x ∷ xs) ≡ Some at → (o : Option Line) → line_of (take at (x ∷ xs)) ≡ o → ((r : List ℕ) → length r ≤ fuel → IsOneOf r) → IsOneOf (x ∷ xs)
    by_line at f None e ih = inr (1, here (record { some = λ q. cc; other = inr (at, f, e) }))
    by_line at f (Some line) e ih =
        let n = length-drop (at + 1) (x ∷ xs) in
        after_line at line (record { feed = f; line_is = e }) (ih (drop (at + 1) (x ∷ xs)) (omega (arith, n, h)))

    by_feed : (o : Option ℕ) → feed_of (x ∷ xs) ≡ o → ((r : List ℕ) → length r ≤ fuel → IsOneOf r) → IsOneOf (x ∷ xs)
    by_feed None f ih = inr (1, here (record { some = λ q. cc; other = inl f }))
    by_feed (Some at) f ih = by_line at f (line_of (take at (x ∷ xs))) refl ih

pub one_or_other : (octets : List ℕ) → IsOneOf octets
one_or_other octets = by_length (length octets) octets (omega arith)
