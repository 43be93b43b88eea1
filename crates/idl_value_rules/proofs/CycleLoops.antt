-- Lists that the loops on bodies that contain themselves fill.
use Rattle.std.proofs.Common.{◌≡◌, ◌∙◌, ℕ, ◌+◌, ◌<◌, Bool, true, false, ltb, List, [], ◌∷◌, ◌++◌, map, take, length, get_or, Option, Some, None, slice_get, refl, ap, ap₂, sym, subst, arith}
use Rattle.std.proofs.Common.{length-append}
use Rattle.std.specs.Prelude.{slice_index_or}
use Rattle.std.specs.List.{flat_map}
use Rattle.std.proofs.lemmas.Bool.{ltb-true, ltb-false}
use Rattle.std.proofs.lemmas.List.{take_more, map-append, append-nil}
use Rattle.std.proofs.lemmas.Option.{slice_get_within}
use Rattle.std.specs.Option.{option_and_then}
use Rattle.std.proofs.lemmas.List.Concat.{flat_map-cons, flat_map-append}
use Rattle.nd_base.specs.declared.octets.Place.{Place}
use Rattle.idl_constructs.specs.declared.nodes.Nodes as program_nodes
use Rattle.idl_declared_types.specs.declared.kinds.Kind.{Kind}
use Rattle.idl_declared_types.specs.declared.types.Types as program_types
use Rattle.idl_rule_definitions.specs.Scene.{Scene, Body, bodies, place_of, parts_of_found}
use Rattle.idl_cycles.specs.Graph.{parts_at}
use Rattle.idl_rule_definitions.specs.TypeRules.{innermost, held}
use Rattle.idl_declared_types.specs.Kinds.{type_at}
use Rattle.idl_declared_types.specs.Places.{found_place}
use Rattle.idl_declared_types.specs.SeenTypes.{IsTypes}
use Rattle.idl_value_rules.specs.Cycles.{option_list, AreInnermost, AreInnermostBelow, numbers_of, AreHeldBy}
use Rattle.idl_value_rules.proofs.CycleGraph.{index_past, held_parts}
use Rattle.idl_declared_types.proofs.Held.{void_past}
use Rattle.idl_declared_types.proofs.PlacesFilled.{each_more}

-- ## Structs and unions of types

pub innermost_more : (ks : List Kind) (number : ℕ) (places : List (Option Place)) (place : Option Place) → length places ≡ number
    → AreInnermostBelow ks number places → option_list place ≡ innermost (type_at ks number) → AreInnermostBelow ks (number + 1) (places ++ place ∷ [])
innermost_more ks number places place size before is n below =
    each_more (λ i x. option_list x ≡ innermost (type_at ks i)) None places place
    (λ i h. before i (omega (arith, size, h)))
    (subst (λ (k : ℕ). option_list place ≡ innermost (type_at ks k)) (sym size) is)
    n (let e = length-append places (place ∷ []) in omega (arith, below, size, e))

pub all_innermost : (ks : List Kind) (number : ℕ) (places : List (Option Place)) → length places ≡ number → length ks ≡ number
    → AreInnermostBelow ks number places → AreInnermost ks places
all_innermost ks number places size count before n = by (ltb n number) refl where
  by : (t : Bool) → ltb n number ≡ t → option_list (slice_index_or places n None) ≡ innermost (type_at ks n)
  by true e = before n (ltb-true n number e)
  by false e =
      let past = ltb-false n number e in
      ap option_list (index_past places n None (omega (arith, past, size))) ∙ sym (ap innermost (void_past ks n (omega (arith, past, count))))

-- ## Numbers of the bodies that stand in one

-- what the parts so far come to
abbrev pub numbers_in : program_types.Types → List Kind → List ℕ → List ℕ
numbers_in t ks parts = numbers_of t (flat_map innermost (map (type_at ks) parts))

numbers_append : (t : program_types.Types) (ks : List Kind) (xs ys : List ℕ) → numbers_in t ks (xs ++ ys) ≡ numbers_in t ks xs ++ numbers_in t ks ys
numbers_append t ks xs ys =
    let find : Place → List ℕ = λ p. option_list (found_place p t.by_place) in
    ap (λ l. flat_map find (flat_map innermost l)) (map-append (type_at ks) xs ys)
    ∙ ap (flat_map find) (flat_map-append innermost (map (type_at ks) xs) (map (type_at ks) ys))
    ∙ flat_map-append find (flat_map innermost (map (type_at ks) xs)) (flat_map innermost (map (type_at ks) ys))

-- one more part
pub numbers_more : (t : program_types.Types) (ks : List Kind) (places : List (Option Place)) (parts numbers added : List ℕ) (i d : ℕ) → AreInnermost ks places
    → i < length parts → numbers ≡ numbers_in t ks (take i parts) → numbers_of t (option_list (slice_index_or places (get_or parts i d) None)) ≡ added
    → numbers ++ added ≡ numbers_in t ks (take (i + 1) parts)
numbers_more t ks places parts numbers added i d inner below so_far is =
    let y = get_or parts i d in
    let last : numbers_in t ks (y ∷ []) ≡ numbers_of t (innermost (type_at ks y)) =
    ap (numbers_of t) (flat_map-cons innermost (type_at ks y) [] ∙ append-nil (innermost (type_at ks y))) in
    ap₂ (λ a b. a ++ b) so_far (sym is ∙ ap (numbers_of t) (inner y) ∙ sym last)
    ∙ sym (ap (numbers_in t ks) (take_more parts i d below) ∙ numbers_append t ks (take i parts) (y ∷ []))

pub numbers_same : (t : program_types.Types) (ks : List Kind) (places : List (Option Place)) (parts numbers : List ℕ) (i d : ℕ) → AreInnermost ks places
    → i < length parts → numbers ≡ numbers_in t ks (take i parts) → numbers_of t (option_list (slice_index_or places (get_or parts i d) None)) ≡ []
    → numbers ≡ numbers_in t ks (take (i + 1) parts)
numbers_same t ks places parts numbers i d inner below so_far is = sym (append-nil numbers) ∙ numbers_more t ks places parts numbers [] i d inner below so_far is

-- the number of one place
pub one_number : (t : program_types.Types) (place : Place) (o : Option ℕ) → found_place place t.by_place ≡ o → numbers_of t (place ∷ []) ≡ option_list o
one_number t place o e =
    flat_map-cons (λ p. option_list (found_place p t.by_place)) place [] ∙ append-nil (option_list (found_place place t.by_place)) ∙ ap option_list e

-- ## The graph of bodies

-- the first bodies, each with the numbers of what it holds
abbrev pub AreRows : Scene → program_types.Types → ℕ → List (List ℕ) → Type 0
AreRows s t count graph = (i : ℕ) (b : Body) → i < count → slice_get (bodies s) i ≡ Some b → parts_at graph i ≡ numbers_of t (held s (place_of b))

-- one more body
pub rows_more : (s : Scene) (t : program_types.Types) (count : ℕ) (graph : List (List ℕ)) (row : List ℕ) → length graph ≡ count → AreRows s t count graph
    → ((b : Body) → slice_get (bodies s) count ≡ Some b → row ≡ numbers_of t (held s (place_of b))) → AreRows s t (count + 1) (graph ++ row ∷ [])
rows_more s t count graph row size before is i b below there =
    each_more (λ k x. (c : Body) → slice_get (bodies s) k ≡ Some c → x ≡ numbers_of t (held s (place_of c))) [] graph row
    (λ k h c at. before k c (omega (arith, size, h)) at)
    (λ c at. is c (ap (slice_get (bodies s)) (sym size) ∙ at))
    i (let e = length-append graph (row ∷ []) in omega (arith, below, size, e)) b there

pub all_rows : (s : Scene) (t : program_types.Types) (count : ℕ) (graph : List (List ℕ)) → length graph ≡ count → length (bodies s) ≡ count → AreRows s t count graph
    → AreHeldBy s t graph
all_rows s t count graph size all rows = record {
  count = size ∙ sym all;
  row = λ i b there. rows i b (let l = slice_get_within (bodies s) i b there in omega (arith, l, all)) there;
}

-- a place without a body holds nothing
pub held_none : (s : Scene) (n : program_nodes.Nodes) (t : program_types.Types) → IsTypes s n t → (place : Place) → found_place place t.by_place ≡ None → held s place ≡ []
held_none s n t is place missed =
    held_parts s place
    ∙ ap (λ o. flat_map innermost (parts_of_found s.known o)) (is.first place ∙ ap (option_and_then (λ i. slice_get (bodies s) i)) missed)
