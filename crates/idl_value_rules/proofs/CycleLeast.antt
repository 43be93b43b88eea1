-- The least value of a body that contains itself is the least key of a node of the graph of bodies that does.
use Rattle.std.proofs.Common.{◌≡◌, ◌∙◌, ◌⊎◌, inl, inr, ℕ, zero, suc, ◌<◌, ◌≤◌, Bool, true, false, eqb, ◌||◌, List, [], ◌∷◌, ◌++◌, length, get_or, Option, Some, None, slice_get, refl, ap, sym, arith}
use Rattle.std.proofs.Common.{true≢false}
use Rattle.std.specs.Prelude.{slice_index}
use Rattle.std.specs.List.{list_any}
use Rattle.std.specs.Option.{option_and_then}
use Rattle.std.proofs.lemmas.Bool.{eqb-true}
use Rattle.std.proofs.lemmas.List.Concat.{flat_map-cons}
use Rattle.std.proofs.lemmas.Option.{none-some, same_Some, slice_get_cases, slice_get_within}
use Rattle.nd_base.specs.declared.octets.Place.{Place}
use Rattle.idl_constructs.specs.declared.nodes.Nodes as program_nodes
use Rattle.idl_declared_types.specs.declared.types.Types as program_types
use Rattle.idl_rule_definitions.specs.Scene.{Scene, Body, bodies, body_among, place_of, same_place}
use Rattle.idl_rule_definitions.specs.TypeRules.{held, contains, contains_itself}
use Rattle.idl_cycles.specs.Graph as graph
use Rattle.idl_declared_types.specs.Places.{found_place}
use Rattle.idl_declared_types.specs.SeenTypes.{IsTypes}
use Rattle.idl_value_rules.specs.Cycles.{option_list, numbers_of, AreHeldBy, AreOfPlaces, IsLeastOf}
use Rattle.idl_value_rules.proofs.CycleGraph.{among_place, index_past, itself, body_found, no_parts, first_contains}

index_there : (xs : List ℕ) (i : ℕ) → i < length xs → slice_get xs i ≡ Some (slice_index xs i)
index_there [] i below = absurd (omega (arith, below))
index_there (x ∷ xs) zero below = refl
index_there (x ∷ xs) (suc i) below = index_there xs i (omega (arith, below))

among_some : (bs : List Body) (k : ℕ) (c : Body) → slice_get bs k ≡ Some c → (b : Body) × (body_among bs (place_of c) ≡ Some b)
among_some [] k c h = absurd (none-some c h)
among_some (x ∷ bs) zero c h = (x, ap (λ t. elim t [ true ↦ Some x | false ↦ body_among bs (place_of c) ]) (ap (λ y. same_place (place_of y) (place_of c)) (same_Some x c h) ∙ itself (place_of c)))
among_some (x ∷ bs) (suc k) c h = by (same_place (place_of x) (place_of c)) (among_some bs k c h) where
  by : (t : Bool) → (b : Body) × (body_among bs (place_of c) ≡ Some b) → (b : Body) × (elim t [ true ↦ Some x | false ↦ body_among bs (place_of c) ] ≡ Some b)
  by true e = (x, refl)
  by false e = e

found_some : (xs : List Body) (o : Option ℕ) (b : Body) → option_and_then (λ i. slice_get xs i) o ≡ Some b → (j : ℕ) × (o ≡ Some j) × (slice_get xs j ≡ Some b)
found_some xs None b h = absurd (none-some b h)
found_some xs (Some j) b h = (j, refl, h)

same_contains : (s : Scene) (b c : Body) → place_of b ≡ place_of c → contains_itself s b ≡ contains_itself s c
same_contains s b c e = ap (λ p. contains s p p) e

module _ (s : Scene) (n : program_nodes.Nodes) (t : program_types.Types) (is : IsTypes s n t) (g : List (List ℕ)) (held_is : AreHeldBy s t g) where
  among_numbers : (j : ℕ) (test : ℕ → Bool) → ((k : ℕ) → test k ≡ true → (p : Place) × (found_place p t.by_place ≡ Some j)) → (ps : List Place)
      → list_any (λ k. eqb k j || test k) (numbers_of t ps) ≡ true → (p : Place) × (found_place p t.by_place ≡ Some j)
  among_numbers j test known [] h = absurd (true≢false (sym h))
  among_numbers j test known (p ∷ ps) h = by (found_place p t.by_place) refl (among_numbers j test known ps) where
    numbers : (o : Option ℕ) → found_place p t.by_place ≡ o → numbers_of t (p ∷ ps) ≡ option_list o ++ numbers_of t ps
    numbers o e = flat_map-cons (λ q. option_list (found_place q t.by_place)) p ps ∙ ap (λ o. option_list o ++ numbers_of t ps) e

    three : (k : ℕ) → found_place p t.by_place ≡ Some k → (a b : Bool) → eqb k j ≡ a → test k ≡ b → ((a || b) || list_any (λ k. eqb k j || test k) (numbers_of t ps)) ≡ true
        → (list_any (λ k. eqb k j || test k) (numbers_of t ps) ≡ true → (p : Place) × (found_place p t.by_place ≡ Some j)) → (p : Place) × (found_place p t.by_place ≡ Some j)
    three k f true b e i h more = (p, f ∙ ap (λ x. Some x) (eqb-true k j e))
    three k f false true e i h more = known k i
    three k f false false e i h more = more h

    by : (o : Option ℕ) → found_place p t.by_place ≡ o → (list_any (λ k. eqb k j || test k) (numbers_of t ps) ≡ true → (p : Place) × (found_place p t.by_place ≡ Some j))
        → (p : Place) × (found_place p t.by_place ≡ Some j)
    by None e more = more (sym (ap (list_any (λ k. eqb k j || test k)) (numbers None e)) ∙ h)
    by (Some k) e more = three k e (eqb k j) (test k) refl refl (sym (ap (list_any (λ k. eqb k j || test k)) (numbers (Some k) e)) ∙ h) more

  -- what another node comes to is the first body of a place
  come_to : (m i j : ℕ) → graph.contains_within m g i j ≡ true → (p : Place) × (found_place p t.by_place ≡ Some j)
  come_to zero i j h = absurd (true≢false (sym h))
  come_to (suc m) i j h = by (slice_get_cases (bodies s) i).1 (come_to m) where
    by : ((x : Body) × (i < length (bodies s)) × (slice_get (bodies s) i ≡ Some x) × (get_or (bodies s) i x ≡ x)) ⊎ ((length (bodies s) ≤ i) × (slice_get (bodies s) i ≡ None))
        → ((k j : ℕ) → graph.contains_within m g k j ≡ true → (p : Place) × (found_place p t.by_place ≡ Some j)) → (p : Place) × (found_place p t.by_place ≡ Some j)
    by (inl (a, below, at, _)) more =
        among_numbers j (λ k. graph.contains_within m g k j) (λ k e. more k j e) (held s (place_of a))
        (sym (ap (list_any (λ k. eqb k j || graph.contains_within m g k j)) (held_is.row i a at)) ∙ h)
    by (inr (past, _)) more =
        let c = held_is.count in
        absurd (true≢false (sym h ∙ no_parts s n t is g held_is (suc m) i j (index_past g i [] (omega (arith, past, c)))))

  contained_is_first : (j : ℕ) (b : Body) → slice_get (bodies s) j ≡ Some b → graph.contains_itself g j ≡ true → found_place (place_of b) t.by_place ≡ Some j
  contained_is_first j b there h = by (come_to (length g) j j h) where
    by : (p : Place) × (found_place p t.by_place ≡ Some j) → found_place (place_of b) t.by_place ≡ Some j
    by (p, f) = ap (λ q. found_place q t.by_place) (among_place p (bodies s) b (body_found s n t is g held_is p j (Some b) f there)) ∙ f

  -- the first body of the place of a body
  first_of_place : (k : ℕ) (c : Body) → slice_get (bodies s) k ≡ Some c
      → (j : ℕ) × (b : Body) × (found_place (place_of c) t.by_place ≡ Some j) × (slice_get (bodies s) j ≡ Some b) × (place_of b ≡ place_of c)
  first_of_place k c at = by (among_some (bodies s) k c at) where
    by : (b : Body) × (body_among (bodies s) (place_of c) ≡ Some b)
        → (j : ℕ) × (b : Body) × (found_place (place_of c) t.by_place ≡ Some j) × (slice_get (bodies s) j ≡ Some b) × (place_of b ≡ place_of c)
    by (b, among) = with_number (found_some (bodies s) (found_place (place_of c) t.by_place) b (sym (is.first (place_of c)) ∙ among)) where
      with_number : (j : ℕ) × (found_place (place_of c) t.by_place ≡ Some j) × (slice_get (bodies s) j ≡ Some b)
          → (j : ℕ) × (b : Body) × (found_place (place_of c) t.by_place ≡ Some j) × (slice_get (bodies s) j ≡ Some b) × (place_of b ≡ place_of c)
      with_number (j, found, there) = (j, b, found, there, among_place (place_of c) (bodies s) b among)

  -- by its first body
  itself_by_first : (c b : Body) (j : ℕ) → found_place (place_of c) t.by_place ≡ Some j → slice_get (bodies s) j ≡ Some b → place_of b ≡ place_of c
      → contains_itself s c ≡ graph.contains_itself g j
  itself_by_first c b j found there same =
      same_contains s c b (sym same) ∙ first_contains s n t is g held_is j b there (ap (λ p. found_place p t.by_place) same ∙ found)

  pub least_of : (values least : List ℕ) (result : Option ℕ) → length values ≡ length (bodies s) → AreOfPlaces s t values least → graph.IsLeast g least (length least) result
      → IsLeastOf s values result
  least_of values least None size of_places none = λ (i : ℕ) (c : Body) at. by c (first_of_place i c at) where
    by : (c : Body) → (j : ℕ) × (b : Body) × (found_place (place_of c) t.by_place ≡ Some j) × (slice_get (bodies s) j ≡ Some b) × (place_of b ≡ place_of c) → contains_itself s c ≡ false
    by c (j, b, found, there, same) =
        let l = slice_get_within (bodies s) j b there in
        let m = of_places.count in
        itself_by_first c b j found there same ∙ none j (omega (arith, l, m, size))
  least_of values least (Some v) size of_places key = by (slice_get_cases (bodies s) key.node).1 where
    at_least : (j : ℕ) → j < length (bodies s) → slice_get least j ≡ Some (slice_index least j)
    at_least j l = let m = of_places.count in index_there least j (omega (arith, l, m, size))

    below_all : (i : ℕ) (c : Body) (w : ℕ) → slice_get values i ≡ Some w → slice_get (bodies s) i ≡ Some c → contains_itself s c ≡ true
        → (j : ℕ) × (b : Body) × (found_place (place_of c) t.by_place ≡ Some j) × (slice_get (bodies s) j ≡ Some b) × (place_of b ≡ place_of c) → v ≤ w
    below_all i c w valued at has (j, b, found, there, same) =
        let l = slice_get_within (bodies s) j b there in
        let m = of_places.count in
        let one = of_places.no_less i c w j (slice_index least j) at valued found (at_least j l) in
        let two = key.least j (omega (arith, l, m, size)) (sym (itself_by_first c b j found there same) ∙ has) in
        omega (arith, one, two)

    with_value : (b : Body) → contains_itself s b ≡ true → (i : ℕ) × (c : Body) × (slice_get (bodies s) i ≡ Some c) × (place_of c ≡ place_of b) × (slice_get values i ≡ Some v)
        → IsLeastOf s values (Some v)
    with_value b has (i, c, at, same, valued) = record {
      number = i;
      body = c;
      there = at;
      contains = same_contains s c b same ∙ has;
      is_value = valued;
      least = λ i d w at valued has. below_all i d w valued at has (first_of_place i d at);
    }

    by : ((x : Body) × (key.node < length (bodies s)) × (slice_get (bodies s) key.node ≡ Some x) × (get_or (bodies s) key.node x ≡ x))
        ⊎ ((length (bodies s) ≤ key.node) × (slice_get (bodies s) key.node ≡ None))
        → IsLeastOf s values (Some v)
    by (inl (b, below, there, _)) =
        let first = contained_is_first key.node b there key.contains in
        let at : slice_get least key.node ≡ Some v = at_least key.node below ∙ ap (λ x. Some x) key.is_key in
        with_value b (first_contains s n t is g held_is key.node b there first ∙ key.contains) (of_places.is_value key.node b v there first at)
    by (inr (past, _)) =
        let l = key.below in
        let m = of_places.count in
        absurd (omega (arith, past, l, m, size))
