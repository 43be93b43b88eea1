-- The number that a word names, from what parsing the word gives.
use Rattle.std.proofs.Common.{◌≡◌, ℕ, ◌≤◌, ◌<◌, true, false, Bool, List, [], ◌∷◌, Some, None, Result, Ok, Err, refl, sym, ◌∙◌, ap, ap₂, arith, decimal}
use Rattle.std.specs.Prelude.{◌&&◌, leb, nat_eq, if◌then◌else◌}
use Rattle.std.specs.Cmp.Lexicographic.{pointwise}
use Rattle.std.specs.Str.Parse.{AllDigits, digits_value, ParsesUnsigned}
use Rattle.std.proofs.lemmas.Bool.{eqb-true, leb-true}
use Rattle.std.proofs.lemmas.Str.Parse.{IsNumeralModel}
use Rattle.std.proofs.lemmas.Fmt.{parse-decimal, digits_value-decimal}
use Rattle.command_line.specs.Words.{is_word, number_by, number_of}
use Rattle.nd_lemmas.proofs.Booleans.{first_true as left, second_true as right}

same_word : (xs ys : List ℕ) → pointwise nat_eq xs ys ≡ true → xs ≡ ys
same_word [] [] h = refl
same_word [] (y ∷ ys) h = cc
same_word (x ∷ xs) [] h = cc
same_word (x ∷ xs) (y ∷ ys) h =
    ap₂ (λ a b. a ∷ b) (eqb-true x y (left (nat_eq x y) (pointwise nat_eq xs ys) h)) (same_word xs ys (right (nat_eq x y) (pointwise nat_eq xs ys) h))

own : IsNumeralModel (AllDigits 10) (digits_value 10)
own = record { to = λ ds p. p; from = λ ds p. p; same = λ ds p. refl }

-- `least` and `most` are the limits of the number, `most` one of 32 bits.
module _ (least most : ℕ) where
  -- a number is within the limits, and the word is its digits
  abbrev is_count : List ℕ → ℕ → Bool
  is_count word n = is_word word (decimal n) && leb least n && leb n most

  word_is : (word : List ℕ) (n : ℕ) → is_count word n ≡ true → word ≡ decimal n
  word_is word n h = same_word word (decimal n) (left (is_word word (decimal n)) (leb least n) (left (is_word word (decimal n) && leb least n) (leb n most) h))

  within : (word : List ℕ) (n : ℕ) → is_count word n ≡ true → n ≤ most
  within word n h = leb-true n most (right (is_word word (decimal n) && leb least n) (leb n most) h)

  as_count : (word : List ℕ) (n : ℕ) (t : Bool) → is_count word n ≡ t → number_by least most word n ≡ (if t then Some n else None)
  as_count word n t e = ap (λ b. if b then Some n else None) e

same_Ok : {E : Type 0} (r : Result ℕ E) (a b : ℕ) → r ≡ Ok a → r ≡ Ok b → a ≡ b
same_Ok r a b e f = let same = sym e ∙ f in cc

never_Ok : {E : Type 0} (r : Result ℕ E) (e : E) (a : ℕ) → r ≡ Err e → r ≡ Ok a → ⊥
never_Ok r e a is f = let never = sym is ∙ f in cc

module _ (least most : ℕ) (small : most < 4294967296) {E : Type 0} (word : List ℕ) (r : Result ℕ E) (parsed : ParsesUnsigned 32 10 word r) where
  own_value : (n : ℕ) → is_count least most word n ≡ true → digits_value 10 word ≡ n
  own_value n h =
      let few = within least most word n h in
      ap (digits_value 10) (word_is least most word n h) ∙ digits_value-decimal own n (omega (arith, few, small))

  parsed_as : (n : ℕ) → is_count least most word n ≡ true → r ≡ Ok n
  parsed_as n h =
      let few = within least most word n h in
      parse-decimal 32 n word r (omega (arith, few, small)) (omega (arith, few, small)) (word_is least most word n h) parsed

  by_tests : (n : ℕ) → r ≡ Ok n → (t u : Bool) → is_count least most word (digits_value 10 word) ≡ t → is_count least most word n ≡ u
      → number_by least most word n ≡ number_of least most word
  by_tests n e true u is_t is_u =
      let other = parsed_as (digits_value 10 word) is_t in
      ap (number_by least most word) (same_Ok r n (digits_value 10 word) e other)
  by_tests n e false true is_t is_u =
      let value = own_value n is_u in
      let again : is_count least most word (digits_value 10 word) ≡ true = ap (is_count least most word) value ∙ is_u in
      let never : false ≡ true = sym is_t ∙ again in
      cc
  by_tests n e false false is_t is_u = as_count least most word n false is_u ∙ sym (as_count least most word (digits_value 10 word) false is_t)

  -- a word that was parsed names this number, or none
  pub number_read : (n : ℕ) → r ≡ Ok n → number_by least most word n ≡ number_of least most word
  number_read n e = by_tests n e (is_count least most word (digits_value 10 word)) (is_count least most word n) refl refl

  by_test : (e : E) → r ≡ Err e → (t : Bool) → is_count least most word (digits_value 10 word) ≡ t → None ≡ number_of least most word
  by_test e is true is_t =
      let other = parsed_as (digits_value 10 word) is_t in
      absurd (never_Ok r e (digits_value 10 word) is other)
  by_test e is false is_t = sym (as_count least most word (digits_value 10 word) false is_t)

  -- a word that was not parsed names none
  pub no_number : (e : E) → r ≡ Err e → None ≡ number_of least most word
  no_number e is = by_test e is (is_count least most word (digits_value 10 word)) refl
