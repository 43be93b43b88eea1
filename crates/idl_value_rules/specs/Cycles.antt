-- For the code: structs and unions that contain themselves, as a graph of the numbers of bodies.
use Rattle.std.specs.Prelude.{◌≡◌, ℕ, ◌+◌, ◌*◌, ◌^◌, ◌≤◌, ◌<◌, ◌⊎◌, true, false, List, [], ◌∷◌, Option, Some, None, length, slice_get, slice_index_or}
use Rattle.std.specs.List.{flat_map}
use Rattle.std.specs.Option.{option_and_then}
use Rattle.nd_base.specs.declared.octets.Place.{Place}
use Rattle.idl_scope.specs.Known.{Ended}
use Rattle.idl_declared_types.specs.declared.kinds.Kind.{Kind}
use Rattle.idl_declared_types.specs.declared.types.BodyTypes.{BodyTypes}
use Rattle.idl_declared_types.specs.declared.types.Types as program_types
use Rattle.idl_rule_definitions.specs.Scene.{Scene, Body, bodies, place_of}
use Rattle.idl_rule_definitions.specs.TypeRules.{innermost, held, contains_itself}
use Rattle.idl_rule_definitions.specs.Rules.{rank_in}
use Rattle.idl_declared_types.specs.Kinds.{type_at}
use Rattle.idl_declared_types.specs.Places.{found_place}
use Rattle.idl_cycles.specs.Graph.{parts_at}

abbrev pub option_list : {X : Type 0} → Option X → List X
option_list (Some x) = x ∷ []
option_list None = []

-- For each type the struct or union that it is in its place, or of which it is an array or pipe.
abbrev pub AreInnermost : List Kind → List (Option Place) → Type 0
AreInnermost ks places = (n : ℕ) → option_list (slice_index_or places n None) ≡ innermost (type_at ks n)

-- the same of the first `count` types
abbrev pub AreInnermostBelow : List Kind → ℕ → List (Option Place) → Type 0
AreInnermostBelow ks count places = (n : ℕ) → n < count → option_list (slice_index_or places n None) ≡ innermost (type_at ks n)

-- the numbers of the first bodies of places; a place without a body has none
abbrev pub numbers_of : program_types.Types → List Place → List ℕ
numbers_of t places = flat_map (λ p. option_list (found_place p t.by_place)) places

-- the graph of bodies: each holds what the first body of its place holds
pub record AreHeldBy (s : Scene) (t : program_types.Types) (graph : List (List ℕ)) : Type 0 where
  pub count : length graph ≡ length (bodies s)
  pub row : (i : ℕ) (b : Body) → slice_get (bodies s) i ≡ Some b → parts_at graph i ≡ numbers_of t (held s (place_of b))

-- the number of the first body of the place of a body
abbrev pub first_number : program_types.Types → ℕ → Option ℕ
first_number t number = option_and_then (λ (b : BodyTypes). found_place b.place t.by_place) (slice_get t.bodies.items number)

-- values of bodies, put at the first body of their place: the least of them
pub record AreOfPlaces (s : Scene) (t : program_types.Types) (values least : List ℕ) : Type 0 where
  pub count : length least ≡ length values
  -- it is the value of a body of the place
  pub is_value : (j : ℕ) (b : Body) (v : ℕ) → slice_get (bodies s) j ≡ Some b → found_place (place_of b) t.by_place ≡ Some j
      → slice_get least j ≡ Some v
      → (i : ℕ) × (c : Body) × (slice_get (bodies s) i ≡ Some c) × (place_of c ≡ place_of b) × (slice_get values i ≡ Some v)
  -- no body of the place has a lesser one
  pub no_less : (i : ℕ) (b : Body) (v j w : ℕ) → slice_get (bodies s) i ≡ Some b → slice_get values i ≡ Some v
      → found_place (place_of b) t.by_place ≡ Some j
      → slice_get least j ≡ Some w → w ≤ v

-- the key by which a breach of a body comes first
abbrev pub key_of : List Ended → Body → ℕ
key_of files b = rank_in files b.construct.file * 2 ^ 32 + b.construct.at

-- the key of a body, at its number
pub record IsKeyAt (files : List Ended) (b : Body) (keys : List ℕ) (i : ℕ) : Type 0 where
  pub is_key : slice_get keys i ≡ Some (key_of files b)
  pub narrow : b.construct.at < 2 ^ 32

pub record AreKeys (files : List Ended) (bs : List Body) (keys : List ℕ) : Type 0 where
  pub count : length keys ≡ length bs
  pub each : (i : ℕ) (b : Body) → slice_get bs i ≡ Some b → IsKeyAt files b keys i

-- its own number at each number that has the key, and else the number past all
pub record AreNumbersWith (keys : List ℕ) (key : ℕ) (numbers : List ℕ) : Type 0 where
  pub count : length numbers ≡ length keys
  pub with_key : (i : ℕ) → slice_get keys i ≡ Some key → slice_get numbers i ≡ Some i
  pub others : (i k v : ℕ) → slice_get keys i ≡ Some k → slice_get numbers i ≡ Some v → (k ≡ key) × (v ≡ i) ⊎ (v ≡ length keys)

-- one body contains itself and has this value, and none that does has less
pub record IsLeastValue (s : Scene) (values : List ℕ) (value : ℕ) : Type 0 where
  pub number : ℕ
  pub body : Body
  pub there : slice_get (bodies s) number ≡ Some body
  pub contains : contains_itself s body ≡ true
  pub is_value : slice_get values number ≡ Some value
  pub least : (i : ℕ) (b : Body) (v : ℕ) → slice_get (bodies s) i ≡ Some b → slice_get values i ≡ Some v → contains_itself s b ≡ true → value ≤ v

abbrev pub IsLeastOf : Scene → List ℕ → Option ℕ → Type 0
IsLeastOf s values None = (i : ℕ) (b : Body) → slice_get (bodies s) i ≡ Some b → contains_itself s b ≡ false
IsLeastOf s values (Some value) = IsLeastValue s values value
