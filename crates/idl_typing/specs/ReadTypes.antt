-- How far the types of the nodes are read: of the first i nodes of the program.
use Rattle.std.specs.Prelude.{◌≡◌, ◌<◌, ℕ, Bool, true, false, List, [], ◌∷◌, ◌++◌, length, nat_lt, Option, Some, None, is_some, option_map}
use Rattle.std.specs.List.{flat_map, slice_get}
use Rattle.std.specs.Option.{option_and_then}
use Rattle.nd_base.specs.declared.octets.Place.{Place}
use Rattle.idl_scope.specs.Known.{Known, found}
use Rattle.idl_declared_types.specs.declared.kinds.Kind.{Kind}
use Rattle.idl_constructs.specs.declared.nodes.Node as program_node
use Rattle.idl_constructs.specs.declared.nodes.Nodes as program_nodes
use Rattle.idl_declared_types.specs.declared.types.Typed.{Typed}
use Rattle.idl_declared_types.specs.declared.types.BodyTypes.{BodyTypes}
use Rattle.idl_declared_types.specs.declared.types.OperationTypes.{OperationTypes}
use Rattle.idl_declared_types.specs.declared.types.Types.{Types}
use Rattle.idl_declared_types.specs.Kinds.{type_at}
use Rattle.idl_declared_types.specs.SeenOperations.{Called, called_by, IsOperation}
use Rattle.idl_rule_definitions.specs.Scene.{Scoped, Body, body_by, body_among, tag_type}
use Rattle.idl_declared_types.specs.SeenNames.{seen_names, are_within, are_below}
use Rattle.idl_declared_types.specs.SeenTypes.{names_at, scoped_front, bare, IsTyped, AreTypedWithin, IsBody}
use Rattle.idl_declared_types.specs.Places.{found_place}

-- the bodies among nodes
abbrev pub bodies_in : List Scoped → List Body
bodies_in nodes = flat_map (λ n. body_by n.names n.node) nodes

abbrev pub bodies_front : Known → program_nodes.Nodes → ℕ → List Body
bodies_front known n i = bodies_in (scoped_front known n i)

-- the names that stand before node i
pub record NamesRead (known : Known) (n : program_nodes.Nodes) (i : ℕ) (ks : List Kind) (names : List (List ℕ × ℕ)) : Type 0 where
  pub within : are_within (length ks) names ≡ true
  pub agree : (name : List ℕ) → found name (names_at known n i) ≡ found name (seen_names ks names)

-- what is noted of the first i nodes
pub record TypedRead (known : Known) (n : program_nodes.Nodes) (i : ℕ) (ks : List Kind) (noted : List Typed) : Type 0 where
  pub count : length noted ≡ i
  pub typed : (j : ℕ) (it : program_node.Node) (t : Typed) → slice_get n.items.items j ≡ Some it → slice_get noted j ≡ Some t
      → IsTyped (bare known) (names_at known n j) ks n.lists.items it t
  pub within : (j : ℕ) (t : Typed) → slice_get noted j ≡ Some t → AreTypedWithin (length ks) t

-- the number of a place, with one more; a place that is there already keeps its number
abbrev pub and_place : List (Place × ℕ) → Place → ℕ → List (Place × ℕ)
and_place places place number = elim (is_some (found_place place places)) [ true ↦ places | false ↦ places ++ (place, number) ∷ [] ]

-- what is noted of these bodies
pub record BodiesOver (known : Known) (n : program_nodes.Nodes) (front : List Body) (ks : List Kind) (noted : List BodyTypes)
    (places : List (Place × ℕ)) : Type 0 where
  pub count : length noted ≡ length front
  pub body : (j : ℕ) (body : Body) (b : BodyTypes) → slice_get front j ≡ Some body → slice_get noted j ≡ Some b → IsBody (bare known) n ks body b
  pub within : (j : ℕ) (b : BodyTypes) → slice_get noted j ≡ Some b → are_below (length ks) b.parts.items ≡ true
  pub first : (place : Place) → body_among front place ≡ option_and_then (λ j. slice_get front j) (found_place place places)
  pub inside : (place : Place) (j : ℕ) → found_place place places ≡ Some j → j < length front

-- what is noted of the bodies among the first i nodes
abbrev pub BodiesRead : Known → program_nodes.Nodes → ℕ → List Kind → List BodyTypes → List (Place × ℕ) → Type 0
BodiesRead known n i ks noted places = BodiesOver known n (bodies_front known n i) ks noted places

-- the number of a tag, where there is one, is among the first n
abbrev pub is_tag_below : ℕ → Option ℕ → Bool
is_tag_below n None = true
is_tag_below n (Some k) = nat_lt k n

-- the tags of these bodies
pub record TagsOver (front : List Body) (ks : List Kind) (noted : List BodyTypes) : Type 0 where
  pub count : length noted ≡ length front
  pub tag : (j : ℕ) (body : Body) (b : BodyTypes) → slice_get front j ≡ Some body → slice_get noted j ≡ Some b
      → option_map (type_at ks) b.tag ≡ tag_type body.construct body.names body.body
  pub within : (j : ℕ) (b : BodyTypes) → slice_get noted j ≡ Some b → is_tag_below (length ks) b.tag ≡ true

-- the tags of the bodies among the first i nodes
abbrev pub TagsRead : Known → program_nodes.Nodes → ℕ → List Kind → List BodyTypes → Type 0
TagsRead known n i ks noted = TagsOver (bodies_front known n i) ks noted

-- the operations among nodes
abbrev pub called_in : List Scoped → List Called
called_in nodes = flat_map (λ n. called_by n.names n.node) nodes

abbrev pub called_front : Known → program_nodes.Nodes → ℕ → List Called
called_front known n i = called_in (scoped_front known n i)

-- what is noted of these operations
pub record OperationsOver (known : Known) (n : program_nodes.Nodes) (front : List Called) (ks : List Kind)
    (noted : List OperationTypes) : Type 0 where
  pub count : length noted ≡ length front
  pub operation : (j : ℕ) (o : Called) (t : OperationTypes) → slice_get front j ≡ Some o → slice_get noted j ≡ Some t
      → IsOperation (bare known) n ks o t
  pub parameters : (j : ℕ) (t : OperationTypes) → slice_get noted j ≡ Some t → are_below (length ks) t.parameters.items ≡ true
  pub result : (j : ℕ) (t : OperationTypes) → slice_get noted j ≡ Some t → t.result < length ks

-- what is noted of the operations among the first i nodes
abbrev pub OperationsRead : Known → program_nodes.Nodes → ℕ → List Kind → List OperationTypes → Type 0
OperationsRead known n i ks noted = OperationsOver known n (called_front known n i) ks noted

-- all that is noted of the first i nodes, and the names after them
pub record AreRead (known : Known) (n : program_nodes.Nodes) (i : ℕ) (t : Types) (names : List (List ℕ × ℕ)) : Type 0 where
  pub names_read : NamesRead known n i t.kinds names
  pub typed_read : TypedRead known n i t.kinds t.typed.items
  pub bodies_read : BodiesRead known n i t.kinds t.bodies.items t.by_place
  pub tags_read : TagsRead known n i t.kinds t.bodies.items
  pub operations_read : OperationsRead known n i t.kinds t.operations.items
