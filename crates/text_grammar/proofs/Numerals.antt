-- Decimal numbers: what `decimal` writes is read, and what is read is what `decimal` writes.
use Rattle.std.proofs.Common.{◌≡◌, ◌≢◌, ℕ, zero, suc, ◌+◌, ◌-◌, ◌*◌, ◌/◌, ◌%◌, ◌^◌, ◌<◌, ◌≤◌, Bool, true, false, ◌&&◌, not, cond, eqb, List, [], ◌∷◌, ◌++◌, length, Some, None, refl, sym, ap, ap₂}
use Rattle.std.proofs.Common.{subst, ◌∙◌, arith, inl, inr, append_assoc, append-nil, nat_le}
use Rattle.std.specs.List.{list_all}
use Rattle.std.specs.Fmt.{decimal}
use Rattle.std.proofs.lemmas.Fmt.{decimal_digit, decimal_step_wide, decimal_by_steps_wide, length-decimal-le_wide}
use Rattle.std.proofs.lemmas.List.Folds.{list_all-append}
use Rattle.std.proofs.lemmas.Bool.{cond-true, and_parts, and_from, both_ways, cases_lt, ne_eqb, eqb-true, eq-eqb, le-leb, leb-true}
use Rattle.std.proofs.lemmas.Option.{same_Some}
use Rattle.nd_base.specs.Text.{is_digit, is_word_octet}
use Rattle.text_grammar.specs.Runs.{value_from, is_number, number_of}
use Rattle.text_grammar.proofs.Classes.{digit_word, digit_range, range_digit}

-- ## What `decimal` writes

pub digits_are_words : (ds : List ℕ) → list_all is_digit ds ≡ true → list_all is_word_octet ds ≡ true
digits_are_words [] h = refl
digits_are_words (c ∷ cs) h =
    let p = and_parts (is_digit c) (list_all is_digit cs) h in
    and_from (is_word_octet c) (list_all is_word_octet cs) (digit_word c p.0) (digits_are_words cs p.1)

value_behind : (n c : ℕ) (ds : List ℕ) → value_from n (ds ++ c ∷ []) ≡ value_from n ds * 10 + (c - 48)
value_behind n c [] = refl
value_behind n c (d ∷ ds) = value_behind (n * 10 + (d - 48)) c ds

-- what is known of the digits of a number
pub record Written (n : ℕ) (ds : List ℕ) : Type 0 where
  pub digits : list_all is_digit ds ≡ true
  pub value : value_from 0 ds ≡ n
  pub first : ℕ
  pub others : List ℕ
  pub is : ds ≡ first ∷ others
  pub leading : 0 < n → first ≢ 48
  pub one : n < 10 → others ≡ []

pub written : (n : ℕ) → n < 10 ^ 64 → Written n (decimal n)
written = decimal_by_steps_wide Written
    (λ m small. record {
      digits = and_from (is_digit (48 + m)) true (range_digit (48 + m) (omega arith) (omega arith)) refl;
      value = omega arith;
      first = 48 + m;
      others = [];
      is = refl;
      leading = λ some e. omega (arith, some, e);
      one = λ _. refl;
    })
    (λ m ds large h. record {
      digits = list_all-append is_digit ds ((48 + m % 10) ∷ [])
          ∙ and_from (list_all is_digit ds) (list_all is_digit ((48 + m % 10) ∷ [])) h.digits
          (and_from (is_digit (48 + m % 10)) true (range_digit (48 + m % 10) (omega arith) (omega arith)) refl);
      value = value_behind 0 (48 + m % 10) ds ∙ omega (arith, h.value);
      first = h.first;
      others = h.others ++ (48 + m % 10) ∷ [];
      is = ap (λ (l : List ℕ). l ++ (48 + m % 10) ∷ []) h.is;
      leading = λ some. h.leading (omega (arith, large));
      one = λ low. absurd (omega (arith, large, low));
    })

pub decimal_digits : (n : ℕ) → n < 10 ^ 64 → list_all is_digit (decimal n) ≡ true
decimal_digits n h = (written n h).digits

pub decimal_value : (n : ℕ) → n < 10 ^ 64 → value_from 0 (decimal n) ≡ n
decimal_value n h = (written n h).value

pub one_decimal : (m n : ℕ) → m < 10 ^ 64 → n < 10 ^ 64 → decimal m ≡ decimal n → m ≡ n
one_decimal m n p q e = sym (decimal_value m p) ∙ ap (value_from 0) e ∙ decimal_value n q

-- it is read
pub number_again : (n : ℕ) → n < 10 ^ 20 → number_of (decimal n) ≡ Some n
number_again n small =
    let wide : n < 10 ^ 64 = omega (arith, small) in
    by_list (decimal n) refl (written n wide) (length-decimal-le_wide 20 n (omega arith) (omega (arith, small)) (omega (arith, small)))
  where
    by_list : (ds : List ℕ) → decimal n ≡ ds → Written n ds → length ds ≤ 20 → number_of ds ≡ Some n
    by_list [] e w few = let no = w.is in cc
    by_list (c ∷ []) e w few =
        let p = and_parts (is_digit c) true w.digits in
        let value : c - 48 ≡ n = omega (arith, w.value) in
        cond-true (is_number (c ∷ [])) (Some (value_from 0 (c ∷ []))) None (and_from (is_digit c) true p.0 refl) ∙ ap Some w.value
    by_list (c ∷ d ∷ ds) e w few =
        let first : c ≡ w.first = let i = w.is in cc in
        let some : 0 < n = positive (eqb n 0) refl w in
        let other : c ≢ 48 = λ k. w.leading some (sym first ∙ k) in
        let leading : not (eqb c 48) ≡ true = ap not (ne_eqb c 48 other) in
        cond-true (is_number (c ∷ d ∷ ds)) (Some (value_from 0 (c ∷ d ∷ ds))) None
        (and_from (not (eqb c 48)) (nat_le (length (c ∷ d ∷ ds)) 20 && list_all is_digit (c ∷ d ∷ ds)) leading
        (and_from (nat_le (length (c ∷ d ∷ ds)) 20) (list_all is_digit (c ∷ d ∷ ds)) (le-leb (length (c ∷ d ∷ ds)) 20 few) w.digits))
        ∙ ap Some w.value
      where
        positive : (b : Bool) → eqb n 0 ≡ b → Written n (c ∷ d ∷ ds) → 0 < n
        positive true z w =
            let none : w.others ≡ [] = w.one (omega (arith, eqb-true n 0 z)) in
            let i = w.is in
            cc
        positive false z w = elim (cases_lt 0 n) [ inl some ↦ some | inr none ↦ absurd (both_ways (eqb n 0) z (eq-eqb n 0 (omega (arith, none)))) ]

-- ## What is read

value_grows : (n : ℕ) (ds : List ℕ) → n ≤ value_from n ds
value_grows n [] = omega arith
value_grows n (c ∷ cs) = omega (arith, value_grows (n * 10 + (c - 48)) cs)

-- digits after those of a number are those of their value
value_after : (n : ℕ) (ds : List ℕ) → 0 < n → list_all is_digit ds ≡ true → value_from n ds < 10 ^ 64 → decimal (value_from n ds) ≡ decimal n ++ ds
value_after n [] some d small = sym (append-nil (decimal n))
value_after n (c ∷ cs) some d small =
    let p = and_parts (is_digit c) (list_all is_digit cs) d in
    let range = digit_range c p.0 in
    let m : ℕ = n * 10 + (c - 48) in
    let front : m / 10 ≡ n = omega (arith, range.0, range.1) in
    let last : 48 + m % 10 ≡ c = omega (arith, range.0, range.1) in
    value_after m cs (omega arith) p.1 small
    ∙ ap (λ (l : List ℕ). l ++ cs) (decimal_step_wide m (omega arith) (omega (arith, value_grows m cs, small)) ∙ ap₂ (λ x y. decimal x ++ y ∷ []) front last)
    ∙ append_assoc (decimal n) (c ∷ []) cs

power_grows : (j k : ℕ) → 10 ^ k ≤ 10 ^ (j + k)
power_grows zero k = let e : 0 + k ≡ k = omega arith in subst (λ x. 10 ^ k ≤ 10 ^ x) (sym e) (omega arith)
power_grows (suc j) k = let h = power_grows j k in let e : suc j + k ≡ suc (j + k) = omega arith in subst (λ x. 10 ^ k ≤ 10 ^ x) (sym e) (omega (arith, h))

-- so many digits are below that power of ten
value_below : (k n : ℕ) (ds : List ℕ) → list_all is_digit ds ≡ true → n + 1 ≤ 10 ^ k → value_from n ds + 1 ≤ 10 ^ (k + length ds)
value_below k n [] d small = let e : k + 0 ≡ k = omega arith in subst (λ x. n + 1 ≤ 10 ^ x) (sym e) small
value_below k n (c ∷ cs) d small =
    let p = and_parts (is_digit c) (list_all is_digit cs) d in
    let range = digit_range c p.0 in
    let h : value_from (n * 10 + (c - 48)) cs + 1 ≤ 10 ^ (suc k + length cs) = value_below (suc k) (n * 10 + (c - 48)) cs p.1 (omega (arith, small, range.1)) in
    let e : k + length (c ∷ cs) ≡ suc k + length cs = omega arith in
    subst (λ x. value_from (n * 10 + (c - 48)) cs + 1 ≤ 10 ^ x) (sym e) h

fits : (k : ℕ) → k ≤ 20 → 10 ^ (0 + k) ≤ 10 ^ 20
fits k few = let e : (20 - k) + (0 + k) ≡ 20 = omega (arith, few) in subst (λ x. 10 ^ (0 + k) ≤ 10 ^ x) e (power_grows (20 - k) (0 + k))

-- a run that is a number
module _ (n : ℕ) where
  pub is_written : (ds : List ℕ) → is_number ds ≡ true → value_from 0 ds ≡ n → (ds ≡ decimal n) × (n < 10 ^ 20)
  is_written [] h e = cc
  is_written (c ∷ []) h e =
      let p = and_parts (is_digit c) true h in
      let range = digit_range c p.0 in
      let is : c - 48 ≡ n = omega (arith, e) in
      let low : n < 10 = omega (arith, is, range.1) in
      (ap (λ (x : ℕ). x ∷ []) (omega (arith, is, range.0)) ∙ sym (decimal_digit n low), omega (arith, low))
  is_written (c ∷ d ∷ ds) h e =
      let all : List ℕ = c ∷ d ∷ ds in
      let p = and_parts (not (eqb c 48)) (nat_le (length all) 20 && list_all is_digit all) h in
      let r = and_parts (nat_le (length all) 20) (list_all is_digit all) p.1 in
      let q = and_parts (is_digit c) (list_all is_digit (d ∷ ds)) r.1 in
      let range = digit_range c q.0 in
      let few : length all ≤ 20 = leb-true (length all) 20 r.0 in
      let below : value_from 0 all + 1 ≤ 10 ^ (0 + length all) = value_below 0 0 all r.1 (omega arith) in
      let low : value_from 0 all < 10 ^ 20 = omega (arith, below, fits (length all) few) in
      let some : 0 < c - 48 =
      elim (cases_lt 0 (c - 48)) [ inl s ↦ s | inr none ↦ let z : eqb c 48 ≡ true = eq-eqb c 48 (omega (arith, none, range.0)) in absurd (both_ways false refl (sym (ap not z) ∙ p.0)) ] in
      let digit : decimal (0 * 10 + (c - 48)) ≡ c ∷ [] = decimal_digit (0 * 10 + (c - 48)) (omega (arith, range.1)) ∙ ap (λ (x : ℕ). x ∷ []) (omega (arith, range.0)) in
      let back : decimal (value_from 0 all) ≡ decimal (0 * 10 + (c - 48)) ++ (d ∷ ds) = value_after (0 * 10 + (c - 48)) (d ∷ ds) (omega (arith, some)) q.1 (omega (arith, low)) in
      (sym (ap decimal (sym e) ∙ back ∙ ap (λ (l : List ℕ). l ++ (d ∷ ds)) digit), omega (arith, e, low))

-- what is read as a number is what `decimal` writes of it
pub number_is : (ds : List ℕ) (n : ℕ) → number_of ds ≡ Some n → (ds ≡ decimal n) × (n < 10 ^ 20)
number_is ds n e = by (is_number ds) refl e where
  by : (b : Bool) → is_number ds ≡ b → cond b (Some (value_from 0 ds)) None ≡ Some n → (ds ≡ decimal n) × (n < 10 ^ 20)
  by true h e = is_written n ds h (same_Some _ _ e)
  by false h e = cc
