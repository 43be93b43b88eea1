-- What strings spell, from an octet on.
use Rattle.std.proofs.Common.{◌≡◌, ◌≢◌, ℕ, ◌+◌, ◌-◌, ◌<◌, ◌≤◌, Bool, true, false, not, cond, eqb, refl, sym, ap, ◌∙◌, arith, List, [], ◌∷◌, ◌++◌, ◌||◌, drop, length, get_or, position, map}
use Rattle.std.proofs.lemmas.List.{append_assoc, drop_more, length-drop, length-map}
use Rattle.std.specs.List.{position_or_len}
use Rattle.idl_scope.specs.Known.{Ended, has_ended}
use Rattle.idl_scope.specs.Value.{escaped}
use Rattle.idl_names.specs.Walk.{backslash, before_quote, string_value}
use Rattle.idl_grammar.proofs.OneVerdict.{unequal as are_not_same}
use Rattle.std.proofs.lemmas.Bool.{eq-eqb as are_same}

pub at_quote : (s : List ℕ) → string_value s ≡ before_quote (drop 1 s)
at_quote [] = refl
at_quote (quote ∷ rest) = refl

few_left : (xs : List ℕ) → length xs ≤ 1 → before_quote xs ≡ []
few_left [] h = refl
few_left (c ∷ []) h = refl
few_left (c ∷ d ∷ rest) h = absurd (omega (arith, h))

pub at_end : (s : List ℕ) (at : ℕ) → length s ≤ at + 1 → before_quote (drop at s) ≡ []
at_end s at h = few_left (drop at s) (let e : length (drop at s) ≡ length s - at = length-drop at s in omega (arith, h, e))

-- one more character
module _ (s : List ℕ) (at : ℕ) (c d : ℕ) (within : at + 1 < length s) (is_c : c ≡ get_or s at 0) (is_d : d ≡ get_or s (at + 1) 0) where
  one_more : drop (at + 1) s ≡ d ∷ drop (at + 1 + 1) s
  one_more = drop_more s (at + 1) 0 within ∙ ap (λ x. x ∷ drop (at + 1 + 1) s) (sym is_d)

  two_more : drop at s ≡ c ∷ d ∷ drop (at + 1 + 1) s
  two_more =
      drop_more s at 0 (omega (arith, within))
      ∙ (ap (λ x. x ∷ drop (at + 1) s) (sym is_c) ∙ ap (λ l. c ∷ l) one_more)

  pub character_more : before_quote (drop at s) ≡ cond (eqb c backslash) (escaped d) c ∷ before_quote (drop (at + cond (eqb c backslash) 2 1) s)
  character_more = ap before_quote two_more ∙ by (eqb c backslash)
    where
      by : (b : Bool) → elim b [ true ↦ escaped d ∷ before_quote (drop (at + 1 + 1) s) | false ↦ c ∷ before_quote (d ∷ drop (at + 1 + 1) s) ]
          ≡ cond b (escaped d) c ∷ before_quote (drop (at + cond b 2 1) s)
      by true = ap (λ n. escaped d ∷ before_quote (drop n s)) (omega arith)
      by false = ap (λ l. c ∷ before_quote l) (sym one_more)

pub pushed : (whole value : List ℕ) (x : ℕ) (before after : List ℕ) → whole ≡ value ++ before → before ≡ x ∷ after → whole ≡ (value ++ x ∷ []) ++ after
pushed whole value x before after e f = e ∙ (ap (λ l. value ++ l) f ∙ sym (append_assoc value (x ∷ []) after))

-- of places in a list that is seen otherwise
module _ {A B : Type 0} (f : A → B) (test : B → Bool) where
  place_of : (xs : List A) → position_or_len (λ x. test (f x)) xs ≡ position_or_len test (map f xs)
  place_of [] = refl
  place_of (x ∷ xs) = ap (λ n. cond (not (test (f x))) (1 + n) 0) (place_of xs)

  pub position_of : (xs : List A) → position (λ x. test (f x)) xs ≡ position test (map f xs)
  position_of xs = rw (place_of xs, sym (length-map xs f)) refl

-- ## The item at a place

pub first_is : (xs : List Ended) (i : ℕ) (x : Ended) (number : ℕ) → drop i xs ≡ x ∷ drop (i + 1) xs → x.file ≡ number → has_ended (drop i xs) number ≡ true
first_is xs i x number e same = ap (λ l. has_ended l number) e ∙ ap (λ b. b || has_ended (drop (i + 1) xs) number) (are_same x.file number same)

pub first_is_not : (xs : List Ended) (i : ℕ) (x : Ended) (number : ℕ) → drop i xs ≡ x ∷ drop (i + 1) xs → x.file ≢ number → has_ended (drop i xs) number ≡ has_ended (drop (i + 1) xs) number
first_is_not xs i x number e other = ap (λ l. has_ended l number) e ∙ ap (λ b. b || has_ended (drop (i + 1) xs) number) (are_not_same x.file number other)

-- a file that was put last has ended
pub last_ended : (files after : List Ended) (e : Ended) → after ≡ files ++ e ∷ [] → has_ended after e.file ≡ true
last_ended files after e is = ap (λ l. has_ended l e.file) is ∙ put_last files
  where
    other : (a b : Bool) → b ≡ true → (a || b) ≡ true
    other true b h = refl
    other false b h = h

    put_last : (fs : List Ended) → has_ended (fs ++ e ∷ []) e.file ≡ true
    put_last [] = ap (λ b. b || false) (are_same e.file e.file refl)
    put_last (x ∷ fs) = other (eqb x.file e.file) (has_ended (fs ++ e ∷ []) e.file) (put_last fs)
