-- Values of bodies, put one by one at the first body of their place, come to the least of each place.
use Rattle.std.proofs.Common.{◌≡◌, ◌∙◌, ◌⊎◌, inl, inr, ℕ, zero, suc, ◌+◌, ◌<◌, ◌≤◌, min, Bool, true, false, eqb, ltb, List, [], ◌∷◌, length, Option, Some, None, slice_get, refl, ap, sym, arith}
use Rattle.std.proofs.lemmas.List.{length-set}
use Rattle.std.specs.Prelude.{slice_index_or, slice_set}
use Rattle.std.specs.Option.{option_and_then}
use Rattle.std.proofs.Math.Nat.{min-le_left, min-le_right, min-eq_left, min_comm}
use Rattle.std.proofs.lemmas.Bool.{eqb-true, ltb-true, ltb-false}
use Rattle.std.proofs.lemmas.Bool.Decides.{nat_tests}
use Rattle.std.proofs.lemmas.Option.{none-some, same_Some, slice_get_within}
use Rattle.nd_base.specs.declared.octets.Place.{Place}
use Rattle.idl_constructs.specs.declared.nodes.Nodes as program_nodes
use Rattle.idl_declared_types.specs.declared.types.BodyTypes.{BodyTypes}
use Rattle.idl_declared_types.specs.declared.types.Types as program_types
use Rattle.idl_rule_definitions.specs.Scene.{Scene, Body, bodies, place_of}
use Rattle.idl_declared_types.specs.Places.{found_place}
use Rattle.idl_declared_types.specs.SeenTypes.{IsTypes}
use Rattle.idl_value_rules.specs.Cycles.{first_number, AreOfPlaces}
use Rattle.idl_value_rules.proofs.CycleGraph.{among_place}
use Rattle.idl_value_rules.proofs.CycleKeys.{item_there}
use Rattle.idl_declared_types.proofs.PlacesFilled.{here_or_before}
use Rattle.nd_lemmas.proofs.Lists.{item_at as some_below}

-- ## One number of a list is set

set_same : (xs : List ℕ) (k x : ℕ) → k < length xs → slice_get (slice_set xs k x) k ≡ Some x
set_same [] k x below = absurd (omega (arith, below))
set_same (y ∷ xs) zero x below = refl
set_same (y ∷ xs) (suc k) x below = set_same xs k x (omega (arith, below))

set_other : (xs : List ℕ) (k j x : ℕ) → (j ≡ k → ⊥) → slice_get (slice_set xs k x) j ≡ slice_get xs j
set_other [] k j x apart = refl
set_other (y ∷ xs) zero zero x apart = absurd (apart refl)
set_other (y ∷ xs) zero (suc j) x apart = refl
set_other (y ∷ xs) (suc k) zero x apart = refl
set_other (y ∷ xs) (suc k) (suc j) x apart = set_other xs k j x (λ e. apart (ap (λ n. suc n) e))

differ : (j k : ℕ) → eqb j k ≡ false → j ≡ k → ⊥
differ j k apart same = grind (arith, nat_tests, apart, same)

one_of_two : (a b : ℕ) → (min a b ≡ a) ⊎ (min a b ≡ b)
one_of_two a b = by (ltb a b) refl where
  by : (t : Bool) → ltb a b ≡ t → (min a b ≡ a) ⊎ (min a b ≡ b)
  by true e = let l = ltb-true a b e in inl (min-eq_left (omega (arith, l)))
  by false e = let l = ltb-false a b e in inr (min_comm a b ∙ min-eq_left l)

-- ## Values, put one by one

-- `first` is where each value goes, and the values of the first `count` numbers are put there
pub record AreLowered (first : ℕ → Option ℕ) (values least : List ℕ) (count : ℕ) : Type 0 where
  pub size : length least ≡ length values
  pub is_value : (j v : ℕ) → slice_get least j ≡ Some v → (i : ℕ) × ((i ≡ j) ⊎ (first i ≡ Some j)) × (slice_get values i ≡ Some v)
  pub no_less : (i v j w : ℕ) → i < count → slice_get values i ≡ Some v → first i ≡ Some j → slice_get least j ≡ Some w → w ≤ v

pub lowered_none : (first : ℕ → Option ℕ) (values : List ℕ) → AreLowered first values values 0
lowered_none first values = record {
  size = refl;
  is_value = λ j v valued. (j, inl refl, valued);
  no_less = λ i v j w below. absurd (omega (arith, below));
}

-- one that goes nowhere
pub lowered_same : (first : ℕ → Option ℕ) (values least : List ℕ) (count : ℕ) → AreLowered first values least count → first count ≡ None → AreLowered first values least (count + 1)
lowered_same first values least count are none = record {
  size = are.size;
  is_value = are.is_value;
  no_less = λ i v j w below valued goes there. by i v j w valued goes there (here_or_before i count below);
} where
  by : (i v j w : ℕ) → slice_get values i ≡ Some v → first i ≡ Some j → slice_get least j ≡ Some w → (i < count) ⊎ (i ≡ count) → w ≤ v
  by i v j w valued goes there (inl below) = are.no_less i v j w below valued goes there
  by i v j w valued goes there (inr same) = absurd (none-some j (sym none ∙ ap first (sym same) ∙ goes))

-- one that goes to a number
pub lowered_more : (first : ℕ → Option ℕ) (values least : List ℕ) (count number value : ℕ) → AreLowered first values least count → first count ≡ Some number
    → slice_get values count ≡ Some value → AreLowered first values (slice_set least number (min (slice_index_or least number 0) value)) (count + 1)
lowered_more first values least count number value are goes_there valued_here = record {
  size = length-set least number lesser ∙ are.size;
  is_value = λ j v there. value_by j v there (eqb j number) refl;
  no_less = λ i v j w below valued goes there. less_by i v j w valued goes there (eqb j number) refl (here_or_before i count below);
} where
  before : ℕ
  before = slice_index_or least number 0

  lesser : ℕ
  lesser = min before value

  set : List ℕ
  set = slice_set least number lesser

  within : (j v : ℕ) → slice_get set j ≡ Some v → j ≡ number → number < length least
  within j v there same =
      let l = slice_get_within set j v there in
      let m = length-set least number lesser in
      omega (arith, l, m, same)

  set_is : (j v : ℕ) → slice_get set j ≡ Some v → j ≡ number → lesser ≡ v
  set_is j v there same = same_Some lesser v (sym (set_same least number lesser (within j v there same)) ∙ ap (slice_get set) (sym same) ∙ there)

  either : (j v : ℕ) → slice_get set j ≡ Some v → j ≡ number → (lesser ≡ before) ⊎ (lesser ≡ value) → (i : ℕ) × ((i ≡ j) ⊎ (first i ≡ Some j)) × (slice_get values i ≡ Some v)
  either j v there same (inl e) =
      are.is_value j v (ap (slice_get least) same ∙ item_there least number 0 (within j v there same) ∙ ap (λ x. Some x) (sym e ∙ set_is j v there same))
  either j v there same (inr e) = (count, inr (goes_there ∙ ap (λ x. Some x) (sym same)), valued_here ∙ ap (λ x. Some x) (sym e ∙ set_is j v there same))

  value_by : (j v : ℕ) → slice_get set j ≡ Some v → (t : Bool) → eqb j number ≡ t → (i : ℕ) × ((i ≡ j) ⊎ (first i ≡ Some j)) × (slice_get values i ≡ Some v)
  value_by j v there true e = either j v there (eqb-true j number e) (one_of_two before value)
  value_by j v there false e = are.is_value j v (sym (set_other least number j lesser (differ j number e)) ∙ there)

  less_by : (i v j w : ℕ) → slice_get values i ≡ Some v → first i ≡ Some j → slice_get set j ≡ Some w → (t : Bool) → eqb j number ≡ t → (i < count) ⊎ (i ≡ count) → w ≤ v
  less_by i v j w valued goes there true e (inl below) =
      let same = eqb-true j number e in
      let old = are.no_less i v j before below valued goes (ap (slice_get least) same ∙ item_there least number 0 (within j w there same)) in
      let is = set_is j w there same in
      let low = min-le_left before value in
      omega (arith, old, is, low)
  less_by i v j w valued goes there true e (inr here) =
      let is = set_is j w there (eqb-true j number e) in
      let low = min-le_right before value in
      let own : v ≡ value = same_Some v value (sym valued ∙ ap (slice_get values) here ∙ valued_here) in
      omega (arith, own, is, low)
  less_by i v j w valued goes there false e (inl below) = are.no_less i v j w below valued goes (sym (set_other least number j lesser (differ j number e)) ∙ there)
  less_by i v j w valued goes there false e (inr here) =
      let same : j ≡ number = same_Some j number (sym goes ∙ ap first here ∙ goes_there) in
      absurd (differ j number e same)

-- ## At the first bodies of places

module _ (s : Scene) (n : program_nodes.Nodes) (t : program_types.Types) (is : IsTypes s n t) where
  first_has_place : (p : Place) (j : ℕ) (b : Body) → found_place p t.by_place ≡ Some j → slice_get (bodies s) j ≡ Some b → place_of b ≡ p
  first_has_place p j b found there = among_place p (bodies s) b (is.first p ∙ ap (option_and_then (λ i. slice_get (bodies s) i)) found ∙ there)

  -- where the value of a body goes
  goes : (i : ℕ) (b : Body) → slice_get (bodies s) i ≡ Some b → first_number t i ≡ found_place (place_of b) t.by_place
  goes i b there = by (some_below t.bodies.items i (let l = slice_get_within (bodies s) i b there in let e = is.body_count in omega (arith, l, e))) where
    by : (x : BodyTypes) × (slice_get t.bodies.items i ≡ Some x) → first_number t i ≡ found_place (place_of b) t.by_place
    by (x, at) = ap (option_and_then (λ (y : BodyTypes). found_place y.place t.by_place)) at ∙ ap (λ p. found_place p t.by_place) (is.body i b x there at).place

  pub of_places_all : (values least : List ℕ) (count : ℕ) → length values ≡ length (bodies s) → length values ≤ count → AreLowered (first_number t) values least count
      → AreOfPlaces s t values least
  of_places_all values least count size past are = record {
    count = are.size;
    is_value = λ j b v there found valued. value_of j b v there (are.is_value j v valued);
    no_less = λ i b v j w there valued found least_there. less i b v j w there valued found least_there;
  } where
    less : (i : ℕ) (b : Body) (v j w : ℕ) → slice_get (bodies s) i ≡ Some b → slice_get values i ≡ Some v → found_place (place_of b) t.by_place ≡ Some j → slice_get least j ≡ Some w → w ≤ v
    less i b v j w there valued found least_there =
        let l = slice_get_within values i v valued in
        are.no_less i v j w (omega (arith, l, past)) valued (goes i b there ∙ found) least_there

    value_of : (j : ℕ) (b : Body) (v : ℕ) → slice_get (bodies s) j ≡ Some b → (i : ℕ) × ((i ≡ j) ⊎ (first_number t i ≡ Some j)) × (slice_get values i ≡ Some v)
        → (i : ℕ) × (c : Body) × (slice_get (bodies s) i ≡ Some c) × (place_of c ≡ place_of b) × (slice_get values i ≡ Some v)
    value_of j b v there (i, inl same, valued) = (i, b, ap (slice_get (bodies s)) same ∙ there, refl, valued)
    value_of j b v there (i, inr first, valued) =
        by (some_below (bodies s) i (let l = slice_get_within values i v valued in omega (arith, l, size))) where
          by : (c : Body) × (slice_get (bodies s) i ≡ Some c) → (i : ℕ) × (c : Body) × (slice_get (bodies s) i ≡ Some c) × (place_of c ≡ place_of b) × (slice_get values i ≡ Some v)
          by (c, at) = (i, c, at, sym (first_has_place (place_of c) j b (sym (goes i c at) ∙ first) there), valued)
