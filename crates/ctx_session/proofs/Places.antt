-- The first place at which a test passes, and lists in which it passes nowhere.
use Rattle.std.proofs.Common.{◌≡◌, ◌∙◌, ap, sym, refl, subst, ℕ, zero, suc, ◌+◌, ◌<◌, Bool, true, false, not, cond, nat_lt, true≢false, List, [], ◌∷◌, ◌++◌, length, map, Option, Some, None}
use Rattle.std.proofs.Common.{option_map, position, take, drop, remove, slice_set, arith}
use Rattle.std.specs.List.{slice_get, position_or_len}
use Rattle.std.proofs.lemmas.Option.{none-some, same_Some, cond_some}
use Rattle.std.proofs.lemmas.Grind.{common_steps}

-- the first place
pub data FirstAt {X : Type 0} (p : X → Bool) : List X → ℕ → Type 0 where
  at_first : {x : X} {xs : List X} → p x ≡ true → FirstAt p (x ∷ xs) 0
  at_later : {x : X} {xs : List X} {at : ℕ} → p x ≡ false → FirstAt p xs at → FirstAt p (x ∷ xs) (suc at)

-- nowhere
abbrev pub Apart : {X : Type 0} → (X → Bool) → List X → Type 0
Apart p [] = Unit {0}
Apart p (x ∷ xs) = (p x ≡ false) × Apart p xs

lt_more : (m n : ℕ) → nat_lt m n ≡ nat_lt (1 + m) (suc n)
lt_more m n = grind (arith, common_steps)

lt_first : (n : ℕ) → nat_lt 0 (suc n) ≡ true
lt_first n = grind (arith, common_steps)

cond_none : (b : Bool) (n : ℕ) → cond b (Some n) None ≡ None → b ≡ false
cond_none true n h = cc
cond_none false n h = refl

module _ {X : Type 0} (p : X → Bool) where
  pub first_at : (xs : List X) (at : ℕ) → position p xs ≡ Some at → FirstAt p xs at
  first_at [] at h = cc
  first_at (x ∷ xs) at h = by (p x) refl h (first_at xs)
    where
      by : (b : Bool) → p x ≡ b → cond (nat_lt (cond (not b) (1 + position_or_len p xs) 0) (suc (length xs))) (Some (cond (not b) (1 + position_or_len p xs) 0)) None ≡ Some at
          → ((i : ℕ) → position p xs ≡ Some i → FirstAt p xs i) → FirstAt p (x ∷ xs) at
      by true k e ih =
          let q = cond_some (nat_lt 0 (suc (length xs))) 0 at e in
          subst (FirstAt p (x ∷ xs)) q.1 (at_first k)
      by false k e ih =
          let q = cond_some (nat_lt (1 + position_or_len p xs) (suc (length xs))) (1 + position_or_len p xs) at e in
          let same = q.1 in
          let n : suc (position_or_len p xs) ≡ at = omega (arith, same) in
          subst (FirstAt p (x ∷ xs)) n (at_later k (ih (position_or_len p xs)
          (ap (λ b. cond b (Some (position_or_len p xs)) None) (lt_more (position_or_len p xs) (length xs) ∙ q.0))))

  pub apart : (xs : List X) → position p xs ≡ None → Apart p xs
  apart [] h = tt
  apart (x ∷ xs) h = by (p x) refl h (apart xs)
    where
      by : (b : Bool) → p x ≡ b → cond (nat_lt (cond (not b) (1 + position_or_len p xs) 0) (suc (length xs))) (Some (cond (not b) (1 + position_or_len p xs) 0)) None ≡ None
          → (position p xs ≡ None → Apart p xs) → Apart p (x ∷ xs)
      by true k e ih = let n = sym (lt_first (length xs)) ∙ cond_none (nat_lt 0 (suc (length xs))) 0 e in absurd (true≢false n)
      by false k e ih =
          let n = cond_none (nat_lt (1 + position_or_len p xs) (suc (length xs))) (1 + position_or_len p xs) e in
          (k, ih (ap (λ b. cond b (Some (position_or_len p xs)) None) (lt_more (position_or_len p xs) (length xs) ∙ n)))

  -- what is at the first place passes
  pub passes : (xs : List X) (at : ℕ) (x : X) → FirstAt p xs at → slice_get xs at ≡ Some x → p x ≡ true
  passes _ _ x (at_first {x = y} k) h = ap p (sym (same_Some y x h)) ∙ k
  passes _ _ x (at_later {xs = xs} {at = at} k f) h = passes xs at x f h

  pub apart_append : (xs : List X) (x : X) → Apart p xs → p x ≡ false → Apart p (xs ++ x ∷ [])
  apart_append [] x a k = (k, tt)
  apart_append (y ∷ xs) x a k = (a.0, apart_append xs x a.1 k)

  pub apart_set : (xs : List X) (at : ℕ) (x y : X) → slice_get xs at ≡ Some x → p y ≡ p x → Apart p xs → Apart p (slice_set xs at y)
  apart_set [] at x y h k a = tt
  apart_set (z ∷ xs) zero x y h k a = (k ∙ ap p (sym (same_Some z x h)) ∙ a.0, a.1)
  apart_set (z ∷ xs) (suc at) x y h k a = (a.0, apart_set xs at x y h k a.1)

  pub apart_remove : (xs : List X) (at : ℕ) → Apart p xs → Apart p (remove xs at)
  apart_remove [] zero a = tt
  apart_remove [] (suc at) a = tt
  apart_remove (x ∷ xs) zero a = a.1
  apart_remove (x ∷ xs) (suc at) a = (a.0, apart_remove xs at a.1)

pub get_left : {X : Type 0} (xs ys : List X) (at : ℕ) (x : X) → slice_get xs at ≡ Some x → slice_get (xs ++ ys) at ≡ Some x
get_left [] ys at x h = absurd (none-some x h)
get_left (y ∷ xs) ys zero x h = h
get_left (y ∷ xs) ys (suc at) x h = get_left xs ys at x h
