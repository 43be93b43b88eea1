-- Stars and dimensions, one after another.
use Rattle.std.proofs.Common.{◌≡◌, ℕ, zero, suc, ◌+◌, ◌-◌, ◌<◌, ◌≤◌, Bool, true, false, ◌||◌, List, [], ◌∷◌, length, drop, map, Option, Some, None, slice_get, refl, sym, ap, ◌∙◌, subst, arith}
use Rattle.std.specs.List.{list_any}
use Rattle.std.proofs.lemmas.Option.{none-some, same_Some}
use Rattle.idl_grammar.specs.declared.attributes.PointerClass.{PointerClass}
use Rattle.idl_grammar.specs.Tree.{Bound}
use Rattle.idl_scope.specs.Known.{Known}
use Rattle.idl_rule_definitions.specs.Types.{IdlType, Array, Pointer, with_stars, with_dimensions, count_of}

pub star_next : (default outermost : Option PointerClass) (t : IdlType) (stars : List ℕ) (i : ℕ) → i + 1 < length stars
    → with_stars default outermost t (drop i stars) ≡ with_stars default outermost (Pointer default t) (drop (suc i) stars)
star_next default outermost t [] i h = absurd (omega arith)
star_next default outermost t (s ∷ []) zero h = absurd (omega arith)
star_next default outermost t (s ∷ n ∷ more) zero h = refl
star_next default outermost t (s ∷ more) (suc i) h = star_next default outermost t more i (omega arith)

pub star_last : (default outermost : Option PointerClass) (t : IdlType) (stars : List ℕ) (i : ℕ) → i + 1 ≡ length stars
    → with_stars default outermost t (drop i stars) ≡ Pointer outermost t
star_last default outermost t [] i h = absurd (omega arith)
star_last default outermost t (s ∷ []) zero h = refl
star_last default outermost t (s ∷ n ∷ more) zero h = absurd (omega arith)
star_last default outermost t (s ∷ more) (suc i) h = star_last default outermost t more i (omega arith)

pub no_star : (default outermost : Option PointerClass) (t : IdlType) (stars : List ℕ) → length stars < 1 → with_stars default outermost t stars ≡ t
no_star default outermost t [] h = refl
no_star default outermost t (s ∷ more) h = absurd (omega arith)

pub dimension_next : {B : Type 0} (known : Known) (t : IdlType) (f : B → Option Bound) (xs : List B) (i : ℕ) (x : B) → slice_get xs i ≡ Some x
    → with_dimensions known t (map f (drop i xs)) ≡ Array (with_dimensions known t (map f (drop (suc i) xs))) (count_of known (f x)) false
dimension_next known t f [] i x h = absurd (none-some x h)
dimension_next known t f (y ∷ ys) zero x h = ap (λ z. Array (with_dimensions known t (map f ys)) (count_of known (f z)) false) (same_Some y x h)
dimension_next known t f (y ∷ ys) (suc i) x h = dimension_next known t f ys i x h

pub any_seen : {A B : Type 0} (test : B → Bool) (f : A → B) (xs : List A) → list_any (λ a. test (f a)) xs ≡ list_any test (map f xs)
any_seen test f [] = refl
any_seen test f (x ∷ xs) = any_seen_by (test (f x)) (any_seen test f xs)
  where
    any_seen_by : (b : Bool) → list_any (λ a. test (f a)) xs ≡ list_any test (map f xs) → (b || list_any (λ a. test (f a)) xs) ≡ (b || list_any test (map f xs))
    any_seen_by b h = ap (λ r. b || r) h
