-- What is counted of a type's dimensions.
use Rattle.std.proofs.Common.{◌≡◌, ◌∙◌, ℕ, Bool, true, false, not, ◌&&◌, ◌||◌, List, [], ◌∷◌, Option, Some, ℤ, refl, sym, ap, ap₂, subst, true≢false}
use Rattle.std.specs.Prelude.{is_none, zero, suc, ◌++◌, length, slice_get}
use Rattle.std.proofs.lemmas.Option.{none-some, same_Some}
use Rattle.std.specs.List.{list_any}
use Rattle.idl_value_rules.specs.declared.counted.Counted.{Counted}
use Rattle.idl_rule_definitions.specs.Types.{IdlType, Array, or_void, is_array}
use Rattle.idl_rule_definitions.specs.Scene.{chain}
use Rattle.idl_rule_definitions.specs.TypeRules.{dimensions, times, product, is_right_count, has_wrong_count, are_many, has_many_not_fixed}
use Rattle.idl_value_rules.specs.Counted.{IsCounted, AreCounted}
use Rattle.idl_declared_types.proofs.Grown.{or_turned as or_swap}

or_true : (a : Bool) → true ≡ (a || true)
or_true true = refl
or_true false = refl

many_array : (t : IdlType) (count : Option ℤ) → is_array t ≡ are_many (count ∷ dimensions t)
many_array (Array t c varying) count = refl
many_array _ count = refl

-- in `inside` is what is counted of the element, in `rest` what is defined of it
wrong_step : (inside rest c p q : Bool) → inside ≡ rest → (inside ≡ false → p ≡ q) → (inside || (not c || not p)) ≡ ((not c || not q) || rest)
wrong_step true true c p q e f = or_true (not c || not q)
wrong_step true false c p q e f = absurd (true≢false e)
wrong_step false true c p q e f = absurd (true≢false (sym e))
wrong_step false false c p q e f = ap (λ b. not c || not b) (f refl) ∙ or_swap false (not c || not q)

not_wrong : (a c p : Bool) → (a || (not c || not p)) ≡ false → (a ≡ false) × (p ≡ true)
not_wrong false true true h = (refl, refl)
not_wrong true c p h = absurd (true≢false h)
not_wrong false false p h = absurd (true≢false h)
not_wrong false true false h = absurd (true≢false h)

-- an array of a type of which this is counted
pub array_counted : (t : IdlType) (varying : Bool) (count : Option ℤ) (i r : Counted) → IsCounted t i
    → r.holds_wrong ≡ (i.holds_wrong || (not (is_right_count count) || not (is_right_count r.elements)))
    → r.holds_many_not_fixed ≡ (i.holds_many_not_fixed || (i.array && r.not_fixed)) → r.many ≡ i.array → r.array ≡ true → r.not_fixed ≡ (is_none count || i.not_fixed)
    → is_right_count r.elements ≡ is_right_count (times count i.elements) → (is_right_count r.elements ≡ true → r.elements ≡ times count i.elements)
    → IsCounted (Array t count varying) r
array_counted t varying count i r is wrong many_unfixed many array unfixed right same =
    let unfixed_is : r.not_fixed ≡ (is_none count || list_any is_none (dimensions t)) = unfixed ∙ ap (λ b. is_none count || b) is.not_fixed in
    let many_is : r.many ≡ are_many (count ∷ dimensions t) = many ∙ is.array ∙ many_array t count in
    record {
      holds_wrong =
          wrong
          ∙ wrong_step i.holds_wrong (list_any has_wrong_count (chain t)) (is_right_count count) (is_right_count r.elements) (is_right_count (times count (product (dimensions t)))) is.holds_wrong
          (λ h. right ∙ ap (λ o. is_right_count (times count o)) (is.elements h));
      holds_many_not_fixed =
          many_unfixed ∙ ap₂ (λ a b. a || b) is.holds_many_not_fixed (ap₂ (λ a b. a && b) (is.array ∙ many_array t count) unfixed_is)
          ∙ or_swap (list_any has_many_not_fixed (chain t)) (are_many (count ∷ dimensions t) && (is_none count || list_any is_none (dimensions t)));
      many = many_is;
      elements =
          (λ h.
          let n = not_wrong i.holds_wrong (is_right_count count) (is_right_count r.elements) (sym wrong ∙ h) in
          same n.1 ∙ ap (times count) (is.elements n.0));
      array = array;
      not_fixed = unfixed_is;
    }

each_more : {X : Type 0} (P : ℕ → X → Type 0) (xs : List X) (x : X) → ((n : ℕ) (y : X) → slice_get xs n ≡ Some y → P n y) → P (length xs) x
    → (n : ℕ) (y : X) → slice_get (xs ++ x ∷ []) n ≡ Some y → P n y
each_more P [] x each last zero y h = subst (λ (z : _). P zero z) (same_Some x y h) last
each_more P [] x each last (suc n) y h = absurd (none-some y h)
each_more P (z ∷ xs) x each last zero y h = each zero y h
each_more P (z ∷ xs) x each last (suc n) y h = each_more (λ m w. P (suc m) w) xs x (λ m w e. each (suc m) w e) last n y h

-- one more type of which this is counted
pub counted_more : (types : List IdlType) (counts : List Counted) (c : Counted) (number : ℕ) (t : IdlType) → length counts ≡ number → AreCounted types counts
    → t ≡ or_void (slice_get types number) → IsCounted t c → AreCounted types (counts ++ c ∷ [])
counted_more types counts c number t size each same is =
    each_more (λ n d. IsCounted (or_void (slice_get types n)) d) counts c each
    (subst (λ (n : ℕ). IsCounted (or_void (slice_get types n)) c) (sym size) (subst (λ (u : IdlType). IsCounted u c) same is))
