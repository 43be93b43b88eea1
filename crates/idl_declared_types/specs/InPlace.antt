-- For the code: what types hold in their place, as a graph of their numbers with `void` after them.
use Rattle.std.specs.Prelude.{◌≡◌, ℕ, suc, ◌<◌, Bool, true, nat_lt, List, map, Option, Some, None}
use Rattle.std.specs.List.{list_all}
use Rattle.nd_base.specs.declared.octets.Place.{Place}
use Rattle.idl_declared_types.specs.declared.kinds.Kind.{Kind}
use Rattle.idl_cycles.specs.declared.graph.rounds.Rule.{Rule}
use Rattle.idl_cycles.specs.declared.graph.rounds.Rule.TheVariants.{Always, Never, All, Any, Last}
use Rattle.idl_rule_definitions.specs.Types.{IdlType, ContextHandle, Struct, Array, Text, Pointer, Pipe}
use Rattle.idl_rule_definitions.specs.Scene.{Scene, in_place}
use Rattle.idl_declared_types.specs.Kinds.{type_at}
use Rattle.idl_cycles.specs.Graph.{parts_at, rule_at}

-- what a struct or union of a place holds in its place
abbrev pub parts_in_place : Scene → Place → List IdlType
parts_in_place s place = in_place s (Struct place)

-- the numbers of types, each one of a type or that of `void` after them
pub record AreHeld (ks : List Kind) (count : ℕ) (numbers : List ℕ) (types : List IdlType) : Type 0 where
  pub seen : map (type_at ks) numbers ≡ types
  pub within : list_all (λ p. nat_lt p (suc count)) numbers ≡ true

-- the parts of each node are what its type holds in its place
abbrev pub IsPlaces : Scene → List Kind → ℕ → List (List ℕ) → Type 0
IsPlaces s ks count graph = (node : ℕ) → node < suc count → AreHeld ks count (parts_at graph node) (in_place s (type_at ks node))

-- when a type hoists
abbrev pub hoists_rule : IdlType → Rule
hoists_rule (Array t None varying) = Always
hoists_rule (Text t None) = Always
hoists_rule (Struct place) = Last
hoists_rule _ = Never

-- when a type may not stand in a pipe
abbrev pub barred_rule : IdlType → Rule
barred_rule (Pointer class to) = Always
barred_rule ContextHandle = Always
barred_rule (Pipe t) = Always
barred_rule (Text t count) = Always
barred_rule (Array t None varying) = Always
barred_rule (Array t (Some count) true) = Always
barred_rule _ = Any

-- the rule of each type, and of `void` after all types
abbrev pub AreRules : (IdlType → Rule) → List Kind → ℕ → List Rule → Type 0
AreRules rule_of ks count rules = (node : ℕ) → node < suc count → rule_at rules node ≡ rule_of (type_at ks node)
