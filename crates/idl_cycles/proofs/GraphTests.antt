-- Tests on lists of numbers.
use Rattle.std.proofs.Common.{◌≡◌, ℕ, Bool, true, false, not, eqb, ◌&&◌, List, [], ◌∷◌, refl, sym, ◌∙◌, inl, inr}
use Rattle.std.specs.List.{list_all, list_any}
use Rattle.std.proofs.lemmas.Bool.{false≢true, or_left, or_right, or_cases, and_from}
use Rattle.nd_lemmas.proofs.Booleans.{first_true as first_of, second_true as second_of}

pub is_not : (b : Bool) → not b ≡ true → b ≡ true → ⊥
is_not true n e = false≢true n
is_not false n e = false≢true e

pub not_from : (b : Bool) → b ≡ false → not b ≡ true
not_from true e = sym e
not_from false e = refl

pub never_true : (b : Bool) → (b ≡ true → ⊥) → b ≡ false
never_true true f = absurd (f refl)
never_true false f = refl

pub any_weaker : (t u : ℕ → Bool) → ((x : ℕ) → t x ≡ true → u x ≡ true) → (xs : List ℕ) → list_any t xs ≡ true → list_any u xs ≡ true
any_weaker t u f [] e = e
any_weaker t u f (x ∷ xs) e =
    elim (or_cases (t x) (list_any t xs) e)
    [ inl h ↦ or_left (u x) (list_any u xs) (f x h) | inr h ↦ or_right (u x) (list_any u xs) (any_weaker t u f xs h) ]

pub all_weaker : (t u : ℕ → Bool) → ((x : ℕ) → t x ≡ true → u x ≡ true) → (xs : List ℕ) → list_all t xs ≡ true → list_all u xs ≡ true
all_weaker t u f [] e = refl
all_weaker t u f (x ∷ xs) e =
    and_from (u x) (list_all u xs) (f x (first_of (t x) (list_all t xs) e)) (all_weaker t u f xs (second_of (t x) (list_all t xs) e))

-- a number of a list that passes one test, where all pass the other
pub any_of_all : (f t : ℕ → Bool) (xs : List ℕ) → list_all f xs ≡ true → list_any t xs ≡ true → (p : ℕ) × (f p ≡ true) × (t p ≡ true)
any_of_all f t [] a e = absurd (false≢true e)
any_of_all f t (x ∷ xs) a e =
    elim (or_cases (t x) (list_any t xs) e)
    [ inl h ↦ (x, first_of (f x) (list_all f xs) a, h) | inr h ↦ any_of_all f t xs (second_of (f x) (list_all f xs) a) h ]

-- what none is, each is not
pub none_is : (p : ℕ) (f : ℕ → Bool) (xs : List ℕ) → list_any (λ x. eqb x p) xs ≡ false → list_all f xs ≡ true → list_all (λ x. not (eqb x p) && f x) xs ≡ true
none_is p f [] n a = refl
none_is p f (x ∷ xs) n a =
    let e : eqb x p ≡ false = never_true (eqb x p) (λ h. false≢true (sym n ∙ or_left (eqb x p) (list_any (λ x. eqb x p) xs) h)) in
    let m : list_any (λ x. eqb x p) xs ≡ false = never_true _ (λ h. false≢true (sym n ∙ or_right (eqb x p) (list_any (λ x. eqb x p) xs) h)) in
    and_from (not (eqb x p) && f x) (list_all (λ x. not (eqb x p) && f x) xs)
    (and_from (not (eqb x p)) (f x) (not_from (eqb x p) e) (first_of (f x) (list_all f xs) a))
    (none_is p f xs m (second_of (f x) (list_all f xs) a))
