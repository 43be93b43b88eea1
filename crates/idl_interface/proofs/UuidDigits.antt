-- The digits of a UUID are those of a number of 128 bits.
use Rattle.std.proofs.Common.{◌≡◌, ℕ, zero, suc, ◌+◌, ◌-◌, ◌*◌, ◌^◌, ◌<◌, ◌≤◌, Bool, true, false, ◌||◌, ◌&&◌, cond, eqb, leb, List, [], ◌∷◌, length, drop, slice_index, refl, sym, ap, arith, ◌∙◌}
use Rattle.std.proofs.lemmas.Bool.{leb-true}
use Rattle.std.proofs.lemmas.List.{length-drop}
use Rattle.nd_lemmas.proofs.Booleans.{clash}
use Rattle.nd_base.specs.Text.{is_hex_digit}
use Rattle.idl_lexer.specs.Pieces.{digit_value, is_dash_place, IsUuid}
use Rattle.idl_rule_definitions.specs.Meaning.{uuid_from}

-- a number does not become less by what follows it
grows : (n : ℕ) (cs : List ℕ) → n ≤ uuid_from n cs
grows n [] = omega arith
grows n (c ∷ cs) = by_case (eqb c 45) (grows n cs) (grows (16 * n + digit_value c) cs) where
  by_case : (b : Bool) → n ≤ uuid_from n cs → 16 * n + digit_value c ≤ uuid_from (16 * n + digit_value c) cs
      → n ≤ elim b [ true ↦ uuid_from n cs | false ↦ uuid_from (16 * n + digit_value c) cs ]
  by_case true dash digit = dash
  by_case false dash digit = omega (arith, digit)

-- nor is it with one octet greater than with all
pub first_below : (n c : ℕ) (cs : List ℕ) → uuid_from n (c ∷ []) ≤ uuid_from n (c ∷ cs)
first_below n c cs = by_case (eqb c 45) where
  by_case : (b : Bool) → elim b [ true ↦ n | false ↦ 16 * n + digit_value c ] ≤ elim b [ true ↦ uuid_from n cs | false ↦ uuid_from (16 * n + digit_value c) cs ]
  by_case true = grows n cs
  by_case false = grows (16 * n + digit_value c) cs

-- how many octets are no dash
abbrev digits : List ℕ → ℕ
digits [] = 0
digits (c ∷ cs) = elim (eqb c 45) [ true ↦ digits cs | false ↦ suc (digits cs) ]

-- a bound, after so many digits
abbrev after : ℕ → ℕ → ℕ
after bound zero = bound
after bound (suc k) = after (16 * bound) k

after_grows : (bound k : ℕ) → bound ≤ after bound k
after_grows bound zero = omega arith
after_grows bound (suc k) = let more = after_grows (16 * bound) k in omega (arith, more)

-- what is no dash is a digit below 16
abbrev AreDigits : List ℕ → Type 0
AreDigits cs = (k : ℕ) → k < length cs → eqb (slice_index cs k) 45 ≡ false → digit_value (slice_index cs k) < 16

bounded : (n bound k : ℕ) (cs : List ℕ) → n < bound → digits cs ≤ k → AreDigits cs → uuid_from n cs < after bound k
bounded n bound k [] below few all = let more = after_grows bound k in omega (arith, below, more)
bounded n bound k (c ∷ cs) below few all =
    by_case (eqb c 45) refl few (λ m b j lt f. bounded m b j cs lt f (λ i lt'. all (suc i) (omega (arith, lt')))) where
      by_case : (b : Bool) → eqb c 45 ≡ b → elim b [ true ↦ digits cs | false ↦ suc (digits cs) ] ≤ k
          → ((m b' j : ℕ) → m < b' → digits cs ≤ j → uuid_from m cs < after b' j)
          → elim b [ true ↦ uuid_from n cs | false ↦ uuid_from (16 * n + digit_value c) cs ] < after bound k
      by_case true e few' others = others n bound k below few'
      by_case false e few' others = digit k few' where
        digit : (j : ℕ) → suc (digits cs) ≤ j → uuid_from (16 * n + digit_value c) cs < after bound j
        digit zero f = absurd (omega (arith, f))
        digit (suc j) f =
            let small = all 0 (omega arith) e in others (16 * n + digit_value c) (16 * bound) j (omega (arith, below, small)) (omega (arith, f))

-- ## How many digits a UUID has

one_or_none : (c : ℕ) (cs : List ℕ) → digits (c ∷ cs) ≤ suc (digits cs)
one_or_none c cs = by_case (eqb c 45) where
  by_case : (b : Bool) → elim b [ true ↦ digits cs | false ↦ suc (digits cs) ] ≤ suc (digits cs)
  by_case true = omega arith
  by_case false = omega arith

few_digits : (cs : List ℕ) → digits cs ≤ length cs
few_digits [] = omega arith
few_digits (c ∷ cs) = let more = few_digits cs in let one = one_or_none c cs in omega (arith, more, one)

dash_at : (k : ℕ) (cs : List ℕ) → k < length cs → eqb (slice_index cs k) 45 ≡ true → digits cs ≤ k + digits (drop (suc k) cs)
dash_at k [] lt e = absurd (omega (arith, lt))
dash_at zero (c ∷ cs) lt e =
    let none : digits (c ∷ cs) ≡ digits cs = ap (λ b. elim b [ true ↦ digits cs | false ↦ suc (digits cs) ]) e in
    omega (arith, none)
dash_at (suc k) (c ∷ cs) lt e =
    let more = dash_at k cs (omega (arith, lt)) e in
    let one = one_or_none c cs in
    omega (arith, more, one)

index_drop : (n k m : ℕ) (cs : List ℕ) → m ≡ n + k → slice_index (drop n cs) k ≡ slice_index cs m
index_drop zero k m cs e = ap (slice_index cs) (omega (arith, e))
index_drop (suc n) k zero cs e = absurd (omega (arith, e))
index_drop (suc n) k (suc m) [] e = refl
index_drop (suc n) k (suc m) (c ∷ cs) e = index_drop n k m cs (omega (arith, e))

hex_small : (c : ℕ) → is_hex_digit c ≡ true → digit_value c < 16
hex_small c h = by_first (leb c 57) refl where
  by_first : (b : Bool) → leb c 57 ≡ b → cond b (c - 48) (cond (leb c 70) (c - 55) (c - 87)) < 16
  by_first true e = let small = leb-true c 57 e in omega (arith, small)
  by_first false e = by_second (leb c 70) refl where
    by_second : (b : Bool) → leb c 70 ≡ b → cond b (c - 55) (c - 87) < 16
    by_second true f = let small = leb-true c 70 f in omega (arith, small)
    by_second false f = let last = third (leb 48 c) (leb 65 c) (leb 97 c) (leb c 57) (leb c 70) (leb c 102) e f h in let small = leb-true c 102 last in omega (arith, small) where
      third : (a b d p q r : Bool) → p ≡ false → q ≡ false → ((a && p) || ((b && q) || (d && r))) ≡ true → r ≡ true
      third a b d false false true e f h = refl
      third true true true false false false e f h = cc
      third true true false false false false e f h = cc
      third true false true false false false e f h = cc
      third true false false false false false e f h = cc
      third false true true false false false e f h = cc
      third false true false false false false e f h = cc
      third false false true false false false e f h = cc
      third false false false false false false e f h = cc
      third a b d true q r e f h = clash true refl e
      third a b d false true r e f h = clash true refl f

module _ (cs : List ℕ) (u : IsUuid cs) where
  are_digits : AreDigits cs
  are_digits k lt no_dash = by_case (is_dash_place k) (u.each k (omega (arith, lt, u.long))) where
    by_case : (b : Bool) → cond b (eqb (slice_index cs k) 45) (is_hex_digit (slice_index cs k)) ≡ true → digit_value (slice_index cs k) < 16
    by_case true h = clash (eqb (slice_index cs k) 45) h no_dash
    by_case false h = hex_small (slice_index cs k) h

  abbrev second : List ℕ
  second = drop 9 cs

  abbrev third_part : List ℕ
  third_part = drop 5 second

  abbrev fourth : List ℕ
  fourth = drop 5 third_part

  abbrev fifth : List ℕ
  fifth = drop 5 fourth

  dash : (octets : List ℕ) (k n : ℕ) → slice_index octets k ≡ slice_index cs n → eqb (slice_index cs n) 45 ≡ true → eqb (slice_index octets k) 45 ≡ true
  dash octets k n is e = ap (λ c. eqb c 45) is ∙ e

  lengths : (length second ≡ 27) × (length third_part ≡ 22) × (length fourth ≡ 17) × (length fifth ≡ 12)
  lengths =
      let a = length-drop 9 cs in
      let b = length-drop 5 second in
      let c = length-drop 5 third_part in
      let d = length-drop 5 fourth in
      (omega (arith, a, u.long), omega (arith, a, b, u.long), omega (arith, a, b, c, u.long), omega (arith, a, b, c, d, u.long))

  few : digits cs ≤ 32
  few =
      let l = lengths in
      let first_at = dash_at 8 cs (omega (arith, u.long)) (u.each 8 (omega arith)) in
      let second_at = dash_at 4 second (omega (arith, l.0)) (dash second 4 13 (index_drop 9 4 13 cs refl) (u.each 13 (omega arith))) in
      let third_at = dash_at 4 third_part (omega (arith, l.1)) (dash third_part 4 18 (index_drop 5 4 9 second refl ∙ index_drop 9 9 18 cs refl) (u.each 18 (omega arith))) in
      let fourth_at =
      dash_at 4 fourth (omega (arith, l.2)) (dash fourth 4 23 (index_drop 5 4 9 third_part refl ∙ (index_drop 5 9 14 second refl ∙ index_drop 9 14 23 cs refl)) (u.each 23 (omega arith))) in
      let last = few_digits fifth in
      omega (arith, first_at, second_at, third_at, fourth_at, last, l.3)

  pub uuid_fits : uuid_from 0 cs < 2 ^ 128
  uuid_fits = bounded 0 1 32 cs (omega arith) few are_digits

drop_here : (i : ℕ) (cs : List ℕ) → i < length cs → drop i cs ≡ slice_index cs i ∷ drop (suc i) cs
drop_here i [] lt = absurd (omega (arith, lt))
drop_here zero (c ∷ cs) lt = refl
drop_here (suc i) (c ∷ cs) lt = drop_here i cs (omega (arith, lt))

-- where a number so far has with what is left the value of a UUID, it has 128 bits with the next octet
pub next_fits : (n i : ℕ) (cs : List ℕ) → IsUuid cs → i < length cs → uuid_from n (drop i cs) ≡ uuid_from 0 cs → uuid_from n (slice_index cs i ∷ []) < 2 ^ 128
next_fits n i cs u lt is =
    let here : uuid_from n (slice_index cs i ∷ drop (suc i) cs) ≡ uuid_from 0 cs = ap (uuid_from n) (sym (drop_here i cs lt)) ∙ is in
    let below = first_below n (slice_index cs i) (drop (suc i) cs) in
    let fits = uuid_fits cs u in
    omega (arith, below, here, fits)
