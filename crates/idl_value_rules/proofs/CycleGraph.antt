-- Bodies that contain themselves are, by the first body of their place, the nodes of the graph of bodies that do.
use Rattle.std.proofs.Common.{◌≡◌, ◌∙◌, ◌⊎◌, inl, inr, ℕ, zero, suc, ◌<◌, ◌≤◌, Bool, true, false, eqb, ◌&&◌, ◌||◌, List, [], ◌∷◌, ◌++◌, length, get_or, Option, Some, None, slice_get, refl, ap, ap₂}
use Rattle.std.proofs.Common.{sym, arith}
use Rattle.std.specs.Prelude.{slice_index_or}
use Rattle.std.specs.List.{list_any, flat_map}
use Rattle.std.specs.Option.{option_and_then}
use Rattle.std.proofs.lemmas.Bool.{eqb-true}
use Rattle.std.proofs.lemmas.Bool.Decides.{nat_tests}
use Rattle.std.proofs.lemmas.List.Concat.{flat_map-cons}
use Rattle.std.proofs.lemmas.Option.{none-some, same_Some, slice_get_cases, slice_get_within}
use Rattle.nd_base.specs.declared.octets.Place.{Place}
use Rattle.idl_constructs.specs.declared.nodes.Nodes as program_nodes
use Rattle.idl_declared_types.specs.declared.types.Types as program_types
use Rattle.idl_rule_definitions.specs.Scene.{Scene, Body, bodies, body_among, body_of, place_of, parts_of, parts_of_found, same_place}
use Rattle.idl_rule_definitions.specs.TypeRules.{innermost, held_by, held, contains_within, contains, contains_itself}
use Rattle.idl_cycles.specs.Graph.{parts_at}
use Rattle.idl_cycles.specs.Graph as graph
use Rattle.idl_declared_types.specs.Places.{found_place}
use Rattle.idl_declared_types.specs.SeenTypes.{IsTypes}
use Rattle.idl_value_rules.specs.Cycles.{option_list, numbers_of, AreHeldBy}
use Rattle.idl_rule_definitions.proofs.Equal.{place_is}

-- ## What a place holds

abbrev places_in : Scene → Option Body → List Place
places_in s None = []
places_in s (Some b) = flat_map innermost (parts_of s.known b)

held_among : (s : Scene) (p : Place) (bs : List Body) → held_by s p bs ≡ places_in s (body_among bs p)
held_among s p [] = refl
held_among s p (b ∷ bs) = by (same_place (place_of b) p) (held_among s p bs) where
  by : (t : Bool) → held_by s p bs ≡ places_in s (body_among bs p)
      → elim t [ true ↦ flat_map innermost (parts_of s.known b) | false ↦ held_by s p bs ] ≡ places_in s (elim t [ true ↦ Some b | false ↦ body_among bs p ])
  by true e = refl
  by false e = e

-- it is of the types that the place holds
pub held_parts : (s : Scene) (p : Place) → held s p ≡ flat_map innermost (parts_of_found s.known (body_of s p))
held_parts s p = held_among s p (bodies s) ∙ by (body_of s p) where
  by : (o : Option Body) → places_in s o ≡ flat_map innermost (parts_of_found s.known o)
  by None = refl
  by (Some b) = refl

pub among_place : (p : Place) (bs : List Body) (c : Body) → body_among bs p ≡ Some c → place_of c ≡ p
among_place p [] c h = absurd (none-some c h)
among_place p (b ∷ bs) c h = by (same_place (place_of b) p) refl h (among_place p bs c) where
  by : (t : Bool) → same_place (place_of b) p ≡ t → elim t [ true ↦ Some b | false ↦ body_among bs p ] ≡ Some c → (body_among bs p ≡ Some c → place_of c ≡ p) → place_of c ≡ p
  by true e h more = ap place_of (sym (same_Some b c h)) ∙ place_is (place_of b) p e
  by false e h more = more h

pub index_past : {X : Type 0} (xs : List X) (k : ℕ) (d : X) → length xs ≤ k → slice_index_or xs k d ≡ d
index_past [] k d past = refl
index_past (x ∷ xs) zero d past = absurd (omega (arith, past))
index_past (x ∷ xs) (suc k) d past = index_past xs k d (omega (arith, past))

pub itself : (p : Place) → same_place p p ≡ true
itself p = by p.file p.at where
  by : (m n : ℕ) → (eqb m m && eqb n n) ≡ true
  by m n = grind (arith, nat_tests)

module _ (s : Scene) (n : program_nodes.Nodes) (t : program_types.Types) (is : IsTypes s n t) (g : List (List ℕ)) (held_is : AreHeldBy s t g) where
  pub body_found : (p : Place) (k : ℕ) (o : Option Body) → found_place p t.by_place ≡ Some k → slice_get (bodies s) k ≡ o → body_of s p ≡ o
  body_found p k o f h = is.first p ∙ ap (option_and_then (λ i. slice_get (bodies s) i)) f ∙ h

  body_missed : (p : Place) → found_place p t.by_place ≡ None → body_of s p ≡ None
  body_missed p f = is.first p ∙ ap (option_and_then (λ i. slice_get (bodies s) i)) f

  -- a test of places, as one of their numbers
  any_number : (f : Place → Bool) (h : ℕ → Bool) → ((p : Place) → found_place p t.by_place ≡ None → f p ≡ false)
      → ((p : Place) (k : ℕ) → found_place p t.by_place ≡ Some k → f p ≡ h k) → (ps : List Place) → list_any f ps ≡ list_any h (numbers_of t ps)
  any_number f h none some [] = refl
  any_number f h none some (p ∷ ps) = by (found_place p t.by_place) refl (any_number f h none some ps) where
    numbers : (o : Option ℕ) → found_place p t.by_place ≡ o → numbers_of t (p ∷ ps) ≡ option_list o ++ numbers_of t ps
    numbers o e = flat_map-cons (λ q. option_list (found_place q t.by_place)) p ps ∙ ap (λ o. option_list o ++ numbers_of t ps) e

    by : (o : Option ℕ) → found_place p t.by_place ≡ o → list_any f ps ≡ list_any h (numbers_of t ps) → (f p || list_any f ps) ≡ list_any h (numbers_of t (p ∷ ps))
    by None e more = ap (λ b. b || list_any f ps) (none p e) ∙ more ∙ sym (ap (list_any h) (numbers None e))
    by (Some k) e more = ap (λ b. b || list_any f ps) (some p k e) ∙ ap (λ b. h k || b) more ∙ sym (ap (list_any h) (numbers (Some k) e))

  within_none : (m : ℕ) (p q : Place) → body_of s p ≡ None → contains_within m s p q ≡ false
  within_none zero p q h = refl
  within_none (suc m) p q h = ap (list_any (λ r. same_place r q || contains_within m s r q)) (held_among s p (bodies s) ∙ ap (places_in s) h)

  pub no_parts : (m k j : ℕ) → parts_at g k ≡ [] → graph.contains_within m g k j ≡ false
  no_parts zero k j h = refl
  no_parts (suc m) k j h = ap (list_any (λ p. eqb p j || graph.contains_within m g p j)) h

  other_place : (j : ℕ) (b : Body) → found_place (place_of b) t.by_place ≡ Some j → (p : Place) (o : Option ℕ) → found_place p t.by_place ≡ o → (o ≡ Some j → ⊥)
      → same_place p (place_of b) ≡ false
  other_place j b first p o f apart = by (same_place p (place_of b)) refl where
    by : (x : Bool) → same_place p (place_of b) ≡ x → same_place p (place_of b) ≡ false
    by true e = absurd (apart (sym f ∙ ap (λ q. found_place q t.by_place) (place_is p (place_of b) e) ∙ first))
    by false e = e

  -- one place that is held
  one : (j : ℕ) (b : Body) → slice_get (bodies s) j ≡ Some b → found_place (place_of b) t.by_place ≡ Some j → (m : ℕ)
      → ((i : ℕ) (a : Body) → slice_get (bodies s) i ≡ Some a → contains_within m s (place_of a) (place_of b) ≡ graph.contains_within m g i j)
      → (p : Place) (k : ℕ) → found_place p t.by_place ≡ Some k
      → (same_place p (place_of b) || contains_within m s p (place_of b)) ≡ (eqb k j || graph.contains_within m g k j)
  one j b there first m known p k f = by (slice_get_cases (bodies s) k).1 where
    apart : eqb k j ≡ false → same_place p (place_of b) ≡ false
    apart e = other_place j b first p (Some k) f (λ z. let y : k ≡ j = same_Some k j z in by_number y) where
      by_number : k ≡ j → ⊥
      by_number y = grind (arith, nat_tests, e, y)

    by : ((x : Body) × (k < length (bodies s)) × (slice_get (bodies s) k ≡ Some x) × (get_or (bodies s) k x ≡ x)) ⊎ ((length (bodies s) ≤ k) × (slice_get (bodies s) k ≡ None))
        → (same_place p (place_of b) || contains_within m s p (place_of b)) ≡ (eqb k j || graph.contains_within m g k j)
    by (inl (c, below, at, _)) = ap₂ (λ x y. x || y) (same (eqb k j) refl) (ap (λ q. contains_within m s q (place_of b)) (sym place) ∙ known k c at) where
      place : place_of c ≡ p
      place = among_place p (bodies s) c (body_found p k (Some c) f at)

      same : (x : Bool) → eqb k j ≡ x → same_place p (place_of b) ≡ eqb k j
      same true e =
          let number : k ≡ j = eqb-true k j e in
          let body : c ≡ b = same_Some c b (sym at ∙ ap (slice_get (bodies s)) number ∙ there) in
          ap (same_place p) (sym (ap place_of body) ∙ place) ∙ itself p ∙ sym e
      same false e = apart e ∙ sym e
    by (inr (past, at)) =
        let l = slice_get_within (bodies s) j b there in
        let c = held_is.count in
        let e : eqb k j ≡ false = grind (arith, nat_tests, past, l) in
        ap₂ (λ x y. x || y) (apart e ∙ sym e) (within_none m p (place_of b) (body_found p k None f at) ∙ sym (no_parts m k j (index_past g k [] (omega (arith, past, c)))))

  -- what a body contains, if the other is the first of its place
  contains_is : (j : ℕ) (b : Body) → slice_get (bodies s) j ≡ Some b → found_place (place_of b) t.by_place ≡ Some j → (m i : ℕ) (a : Body) → slice_get (bodies s) i ≡ Some a
      → contains_within m s (place_of a) (place_of b) ≡ graph.contains_within m g i j
  contains_is j b there first zero i a at = refl
  contains_is j b there first (suc m) i a at =
      any_number (λ p. same_place p (place_of b) || contains_within m s p (place_of b)) (λ k. eqb k j || graph.contains_within m g k j)
      (λ p f. ap₂ (λ x y. x || y) (other_place j b first p None f (λ z. none-some j z)) (within_none m p (place_of b) (body_missed p f)))
      (one j b there first m (contains_is j b there first m))
      (held s (place_of a))
      ∙ ap (list_any (λ k. eqb k j || graph.contains_within m g k j)) (sym (held_is.row i a at))

  pub first_contains : (j : ℕ) (b : Body) → slice_get (bodies s) j ≡ Some b → found_place (place_of b) t.by_place ≡ Some j → contains_itself s b ≡ graph.contains_itself g j
  unfolding contains
  first_contains j b there first = contains_is j b there first (length (bodies s)) j b there ∙ ap (λ l. graph.contains_within l g j j) (sym held_is.count)
