-- Where the octets of a string are refused, by the place of their first zero.
use Rattle.std.proofs.Common.{◌≡◌, ◌<◌, ◌≤◌, ℕ, ◌+◌, ◌-◌, zero, suc, Bool, true, false, List, [], ◌∷◌, length, drop, slice_get, Option, Some, None, refl, sym, ap, ◌∙◌, arith}
use Rattle.std.proofs.lemmas.List.{at_drop_all}
use Rattle.std.proofs.lemmas.Bool.{eq-eqb, ne_eqb}
use Rattle.std.specs.Prelude.{if◌then◌else◌, cond, eqb}
use Rattle.nd_grammar.specs.declared.reason.Reason.{Reason}
use Rattle.nd_grammar.specs.declared.reason.Reason.TheVariants as reason
use Rattle.nd_grammar.specs.Refusal.{text_refusal}
use Rattle.ndr_decoder_fast.specs.Strings.{first_zero}

-- ## A zero before the last octet

zero_within : (b : Bool) (at c : ℕ) (bs : List ℕ)
    → (first_zero (c ∷ bs) + 1 < length (c ∷ bs) → text_refusal (at + 1) (c ∷ bs) ≡ Some (at + 1 + first_zero (c ∷ bs), reason.TextZero))
    → (if b then 0 else first_zero (c ∷ bs) + 1) + 1 < length bs + 1 + 1
    → cond b (Some (at, reason.TextZero)) (text_refusal (at + 1) (c ∷ bs)) ≡ Some (at + (if b then 0 else first_zero (c ∷ bs) + 1), reason.TextZero)
zero_within true at c bs later h = ap (λ (k : ℕ). Some (k, reason.TextZero)) (omega arith)
zero_within false at c bs later h = later (omega (arith, h)) ∙ ap (λ (k : ℕ). Some (k, reason.TextZero)) (omega arith)

pub zero_before : (at : ℕ) (os : List ℕ) → first_zero os + 1 < length os → text_refusal at os ≡ Some (at + first_zero os, reason.TextZero)
zero_before at [] h = absurd (omega (arith, h))
zero_before at (b ∷ []) h = absurd (omega (arith, h))
zero_before at (b ∷ c ∷ bs) h = zero_within (eqb b 0) at c bs (zero_before (at + 1) (c ∷ bs)) (omega (arith, h))

-- ## A last octet that is the first zero

last_within : (b : Bool) (at c : ℕ) (bs : List ℕ) → (first_zero (c ∷ bs) + 1 ≡ length (c ∷ bs) → text_refusal (at + 1) (c ∷ bs) ≡ None)
    → (if b then 0 else first_zero (c ∷ bs) + 1) + 1 ≡ length bs + 1 + 1 → cond b (Some (at, reason.TextZero)) (text_refusal (at + 1) (c ∷ bs)) ≡ None
last_within true at c bs later h = absurd (omega (arith, h))
last_within false at c bs later h = later (omega (arith, h))

last_alone : (b : Bool) (at : ℕ) → (if b then 0 else 1) + 1 ≡ 1 → cond {A = Option (ℕ × Reason)} b None (Some (at, reason.TextUnended)) ≡ None
last_alone true at h = refl
last_alone false at h = absurd (omega (arith, h))

pub zero_last : (at : ℕ) (os : List ℕ) → first_zero os + 1 ≡ length os → text_refusal at os ≡ None
zero_last at [] h = refl
zero_last at (b ∷ []) h = last_alone (eqb b 0) at (omega (arith, h))
zero_last at (b ∷ c ∷ bs) h = last_within (eqb b 0) at c bs (zero_last (at + 1) (c ∷ bs)) (omega (arith, h))

-- ## No zero

missing_within : (b : Bool) (at c : ℕ) (bs : List ℕ)
    → (0 < length (c ∷ bs) → length (c ∷ bs) ≤ first_zero (c ∷ bs) → text_refusal (at + 1) (c ∷ bs) ≡ Some (at + 1 + (length (c ∷ bs) - 1), reason.TextUnended))
    → length bs + 1 + 1 ≤ (if b then 0 else first_zero (c ∷ bs) + 1)
    → cond b (Some (at, reason.TextZero)) (text_refusal (at + 1) (c ∷ bs)) ≡ Some (at + (length bs + 1), reason.TextUnended)
missing_within true at c bs later h = absurd (omega (arith, h))
missing_within false at c bs later h = later (omega arith) (omega (arith, h)) ∙ ap (λ (k : ℕ). Some (k, reason.TextUnended)) (omega arith)

missing_alone : (b : Bool) (at : ℕ) → 1 ≤ (if b then 0 else 1) → cond {A = Option (ℕ × Reason)} b None (Some (at, reason.TextUnended)) ≡ Some (at + 0, reason.TextUnended)
missing_alone true at h = absurd (omega (arith, h))
missing_alone false at h = ap (λ (k : ℕ). Some (k, reason.TextUnended)) (omega arith)

pub zero_missing : (at : ℕ) (os : List ℕ) → 0 < length os → length os ≤ first_zero os → text_refusal at os ≡ Some (at + (length os - 1), reason.TextUnended)
zero_missing at [] some h = absurd (omega (arith, some))
zero_missing at (b ∷ []) some h = missing_alone (eqb b 0) at (omega (arith, h))
zero_missing at (b ∷ c ∷ bs) some h =
    missing_within (eqb b 0) at c bs (zero_missing (at + 1) (c ∷ bs)) (omega (arith, h)) ∙ ap (λ (k : ℕ). Some (at + k, reason.TextUnended)) (omega arith)

-- ## The search

pick_zero : (b n : ℕ) → b ≡ 0 → (if eqb b 0 then 0 else n) ≡ 0
pick_zero b n e = ap (λ (q : Bool). if q then 0 else n) (eq-eqb b 0 e)

pick_other : (b n : ℕ) → (b ≡ 0 → ⊥) → (if eqb b 0 then 0 else n) ≡ n
pick_other b n h = ap (λ (q : Bool). if q then 0 else n) (ne_eqb b 0 h)

zero_from : (os : List ℕ) (at b : ℕ) → slice_get os at ≡ Some b → first_zero (drop at os) ≡ (if eqb b 0 then 0 else first_zero (drop (at + 1) os) + 1)
zero_from [] at b e = absurd (nothing e)
  where
    nothing : None ≡ Some b → ⊥
    nothing h = cc
zero_from (x ∷ xs) zero b e = let same : x ≡ b = cc in ap (λ (y : ℕ). if eqb y 0 then 0 else first_zero xs + 1) same
zero_from (x ∷ xs) (suc at) b e =
    let k : suc (at + 1) ≡ suc at + 1 = omega arith in
    zero_from xs at b e ∙ ap (λ (i : ℕ). if eqb b 0 then 0 else first_zero (drop i (x ∷ xs)) + 1) k

pub zero_found : (os : List ℕ) (at b : ℕ) → slice_get os at ≡ Some b → b ≡ 0 → first_zero os ≡ at + first_zero (drop at os) → first_zero os ≡ at
zero_found os at b there e so_far =
    let here : first_zero (drop at os) ≡ 0 = zero_from os at b there ∙ pick_zero b (first_zero (drop (at + 1) os) + 1) e in
    omega (arith, so_far, here)

pub zero_passed : (os : List ℕ) (at b : ℕ) → slice_get os at ≡ Some b → (b ≡ 0 → ⊥) → first_zero os ≡ at + first_zero (drop at os)
    → first_zero os ≡ at + 1 + first_zero (drop (at + 1) os)
zero_passed os at b there other so_far =
    let here : first_zero (drop at os) ≡ first_zero (drop (at + 1) os) + 1 = zero_from os at b there ∙ pick_other b (first_zero (drop (at + 1) os) + 1) other in
    omega (arith, so_far, here)

pub zero_nowhere : (os : List ℕ) (at : ℕ) → length os ≤ at → at ≤ length os → first_zero os ≡ at + first_zero (drop at os) → first_zero os ≡ length os
zero_nowhere os at all within so_far =
    let none : first_zero (drop at os) ≡ 0 = at_drop_all first_zero os at all in
    omega (arith, so_far, none, all, within)

-- ## Where a string is refused

pub refused_before : (at found : ℕ) (os : List ℕ) → found ≡ first_zero os → found < length os - 1 → Some (at + found, reason.TextZero) ≡ text_refusal at os
refused_before at found os e h = ap (λ (k : ℕ). Some (at + k, reason.TextZero)) e ∙ sym (zero_before at os (omega (arith, e, h)))

pub refused_unended : (at found : ℕ) (os : List ℕ) → found ≡ first_zero os → 0 < length os → length os - 1 < found
    → Some (at + (length os - 1), reason.TextUnended) ≡ text_refusal at os
refused_unended at found os e some h = sym (zero_missing at os some (omega (arith, e, h)))

pub not_refused : (at found : ℕ) (os : List ℕ) → found ≡ first_zero os → 0 < length os → length os - 1 ≤ found → found ≤ length os - 1 → None ≡ text_refusal at os
not_refused at found os e some h h' = sym (zero_last at os (omega (arith, e, some, h, h')))
