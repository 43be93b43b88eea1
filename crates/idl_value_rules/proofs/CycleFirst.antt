-- The breaches of rule 11, noted one by one, come to that of the first body that contains itself.
use Rattle.std.proofs.Common.{◌≡◌, ◌∙◌, ℕ, zero, suc, ◌<◌, Bool, true, false, ◌&&◌, ◌||◌, eqb, ltb, List, [], ◌∷◌, Option, Some, None, slice_get, refl, ap, sym, arith}
use Rattle.std.specs.List.{flat_map}
use Rattle.std.proofs.lemmas.Bool.Decides.{nat_tests}
use Rattle.std.proofs.lemmas.List.Concat.{flat_map-cons}
use Rattle.std.proofs.lemmas.Option.{none-some, same_Some}
use Rattle.idl_rule_definitions.specs.Nodes.{World, place_in}
use Rattle.idl_rule_definitions.specs.Scene.{Scene, Body, bodies}
use Rattle.idl_rule_definitions.specs.TypeRules.{contains_itself}
use Rattle.idl_rule_definitions.specs.Rules.{Breach, breach, broken_in, comes_before, rank}
use Rattle.idl_rule_definitions.specs.Noted.{later, noted}
use Rattle.idl_value_rules.specs.RestBreaches.{cycle_of, cycle_breaches}
use Rattle.idl_rule_definitions.proofs.Noted.{noted_more}
use Rattle.idl_rule_definitions.specs.declared.rule.TheConstants as Rule
use Rattle.idl_rule_definitions.proofs.Order.{not_before_next as not_through}

-- the breach of a body
abbrev pub cycle_at : Body → Breach
cycle_at b = breach Rule.NO_TYPE_IN_ITSELF (place_in b.construct b.construct.at)

later_by : (w : World) (b a : Breach) (t : Bool) → comes_before w b a ≡ t → later w b (Some a) ≡ elim t [ true ↦ Some b | false ↦ Some a ]
later_by w b a t e = ap (λ t. elim t [ true ↦ Some b | false ↦ Some a ]) e

-- what comes before one that comes before a third comes before the third
through : (w : World) (a b c : Breach) → comes_before w a b ≡ true → comes_before w b c ≡ true → comes_before w a c ≡ true
through w a b c h i = by_numbers a.rule (rank w a.place.file) a.place.at b.rule (rank w b.place.file) b.place.at c.rule (rank w c.place.file) c.place.at h i where
  by_numbers : (r k p s l q t m o : ℕ) → (ltb r s || eqb r s && (ltb k l || eqb k l && ltb p q)) ≡ true → (ltb s t || eqb s t && (ltb l m || eqb l m && ltb q o)) ≡ true
      → (ltb r t || eqb r t && (ltb k m || eqb k m && ltb p o)) ≡ true
  by_numbers r k p s l q t m o h i = grind (arith, nat_tests, h, i)

-- what one comes before leaves no trace
passed_over : (w : World) (c x : Breach) (o : Option Breach) → comes_before w c x ≡ true → later w c (later w x o) ≡ later w c o
passed_over w c x None h = later_by w c x true h
passed_over w c x (Some a) h = by (comes_before w x a) refl where
  by : (t : Bool) → comes_before w x a ≡ t → later w c (later w x (Some a)) ≡ later w c (Some a)
  by true e = ap (later w c) (later_by w x a true e) ∙ later_by w c x true h ∙ sym (later_by w c a true (through w c x a h e))
  by false e = ap (later w c) (later_by w x a false e)

-- what does not come before one that was noted leaves no trace
not_taken : (w : World) (c y : Breach) (o : Option Breach) → comes_before w y c ≡ false → later w y (later w c o) ≡ later w c o
not_taken w c y None h = later_by w y c false h
not_taken w c y (Some a) h = by (comes_before w c a) refl where
  by : (t : Bool) → comes_before w c a ≡ t → later w y (later w c (Some a)) ≡ later w c (Some a)
  by true e = ap (later w y) (later_by w c a true e) ∙ later_by w y c false h ∙ sym (later_by w c a true e)
  by false e = ap (later w y) (later_by w c a false e) ∙ later_by w y a false (not_through w y c a h e) ∙ sym (later_by w c a false e)

-- ## Over bodies

step : (w : World) (s : Scene) (o : Option Breach) (x : Body) (bs : List Body) (t : Bool) → contains_itself s x ≡ t
    → noted w o (flat_map (cycle_of s) (x ∷ bs)) ≡ elim t [ true ↦ noted w (later w (cycle_at x) o) (flat_map (cycle_of s) bs) | false ↦ noted w o (flat_map (cycle_of s) bs) ]
step w s o x bs t e =
    let rest = flat_map (cycle_of s) bs in
    ap (noted w o) (flat_map-cons (cycle_of s) x bs)
    ∙ noted_more w o (cycle_of s x) rest
    ∙ ap (λ l. noted w (noted w o l) rest) (ap (broken_in x.construct 11) e)
    ∙ by t where
      by : (t : Bool) → noted w (noted w o (broken_in x.construct Rule.NO_TYPE_IN_ITSELF t)) (flat_map (cycle_of s) bs)
          ≡ elim t [ true ↦ noted w (later w (cycle_at x) o) (flat_map (cycle_of s) bs) | false ↦ noted w o (flat_map (cycle_of s) bs) ]
      by true = refl
      by false = refl

-- where none contains itself nothing is noted
none_from : (w : World) (s : Scene) (o : Option Breach) (bs : List Body) → ((i : ℕ) (x : Body) → slice_get bs i ≡ Some x → contains_itself s x ≡ false)
    → noted w o (flat_map (cycle_of s) bs) ≡ o
none_from w s o [] h = refl
none_from w s o (x ∷ bs) h = step w s o x bs false (h 0 x refl) ∙ none_from w s o bs (λ i y e. h (suc i) y e)

pub none_noted : (w : World) (s : Scene) (o : Option Breach) → ((i : ℕ) (x : Body) → slice_get (bodies s) i ≡ Some x → contains_itself s x ≡ false)
    → o ≡ noted w o (cycle_breaches s)
none_noted w s o h = sym (none_from w s o (bodies s) h)

-- after the first
behind_from : (w : World) (s : Scene) (c : Breach) (o : Option Breach) (bs : List Body)
    → ((i : ℕ) (x : Body) → slice_get bs i ≡ Some x → contains_itself s x ≡ true → comes_before w (cycle_at x) c ≡ false)
    → noted w (later w c o) (flat_map (cycle_of s) bs) ≡ later w c o
behind_from w s c o [] h = refl
behind_from w s c o (x ∷ bs) h = by (contains_itself s x) refl (behind_from w s c o bs (λ i y e. h (suc i) y e)) where
  by : (t : Bool) → contains_itself s x ≡ t → noted w (later w c o) (flat_map (cycle_of s) bs) ≡ later w c o → noted w (later w c o) (flat_map (cycle_of s) (x ∷ bs)) ≡ later w c o
  by true e more =
      step w s (later w c o) x bs true e
      ∙ ap (λ p. noted w p (flat_map (cycle_of s) bs)) (not_taken w c (cycle_at x) o (h 0 x refl e))
      ∙ more
  by false e more = step w s (later w c o) x bs false e ∙ more

first_from : (w : World) (s : Scene) (b : Body) (bs : List Body) (m : ℕ) (o : Option Breach) → slice_get bs m ≡ Some b → contains_itself s b ≡ true
    → ((i : ℕ) (x : Body) → slice_get bs i ≡ Some x → contains_itself s x ≡ true → i < m → comes_before w (cycle_at b) (cycle_at x) ≡ true)
    → ((i : ℕ) (x : Body) → slice_get bs i ≡ Some x → contains_itself s x ≡ true → m < i → comes_before w (cycle_at x) (cycle_at b) ≡ false)
    → noted w o (flat_map (cycle_of s) bs) ≡ later w (cycle_at b) o
first_from w s b [] m o there has before behind = absurd (none-some b there)
first_from w s b (x ∷ bs) zero o there has before behind =
    let same : x ≡ b = same_Some x b there in
    step w s o x bs true (ap (contains_itself s) same ∙ has)
    ∙ ap (λ y. noted w (later w (cycle_at y) o) (flat_map (cycle_of s) bs)) same
    ∙ behind_from w s (cycle_at b) o bs (λ i y e h. behind (suc i) y e h (omega arith))
first_from w s b (x ∷ bs) (suc m) o there has before behind =
    by (contains_itself s x) refl
    (λ p. first_from w s b bs m p there has (λ i y e h l. before (suc i) y e h (omega (arith, l))) (λ i y e h l. behind (suc i) y e h (omega (arith, l)))) where
      by : (t : Bool) → contains_itself s x ≡ t → ((p : Option Breach) → noted w p (flat_map (cycle_of s) bs) ≡ later w (cycle_at b) p)
          → noted w o (flat_map (cycle_of s) (x ∷ bs)) ≡ later w (cycle_at b) o
      by true e more =
          step w s o x bs true e ∙ more (later w (cycle_at x) o)
          ∙ passed_over w (cycle_at b) (cycle_at x) o (before 0 x refl e (omega arith))
      by false e more = step w s o x bs false e ∙ more o

-- the first body that contains itself alone is noted
pub first_noted : (w : World) (s : Scene) (b : Body) (m : ℕ) (o : Option Breach) → slice_get (bodies s) m ≡ Some b → contains_itself s b ≡ true
    → ((i : ℕ) (x : Body) → slice_get (bodies s) i ≡ Some x → contains_itself s x ≡ true → i < m → comes_before w (cycle_at b) (cycle_at x) ≡ true)
    → ((i : ℕ) (x : Body) → slice_get (bodies s) i ≡ Some x → contains_itself s x ≡ true → m < i → comes_before w (cycle_at x) (cycle_at b) ≡ false)
    → later w (cycle_at b) o ≡ noted w o (cycle_breaches s)
first_noted w s b m o there has before behind = sym (first_from w s b (bodies s) m o there has before behind)
