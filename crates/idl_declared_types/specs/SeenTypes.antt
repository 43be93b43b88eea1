-- The types of the program's nodes as those of the rules. `n` are the nodes of the program, `ks` the kinds of its types.
use Rattle.std.specs.Prelude.{◌≡◌, ◌<◌, ℕ, Bool, true, false, not, List, [], ◌∷◌, ◌++◌, map, take, length, Option, Some, None, Vec}
use Rattle.std.specs.List.{flat_map, slice_get, list_any}
use Rattle.std.specs.Option.{option_and_then}
use Rattle.nd_base.specs.declared.octets.Place.{Place}
use Rattle.idl_grammar.specs.Seen.{seen_type}
use Rattle.idl_scope.specs.Known.{Known, found}
use Rattle.idl_constructs.specs.declared.nodes.Declared as declared
use Rattle.idl_constructs.specs.declared.nodes.Node as program_node
use Rattle.idl_constructs.specs.declared.nodes.Node.TheVariants as node
use Rattle.idl_constructs.specs.declared.nodes.Nodes as program_nodes
use Rattle.idl_declared_types.specs.declared.kinds.Kind.{Kind}
use Rattle.idl_declared_types.specs.declared.types.Typed.{Typed}
use Rattle.idl_declared_types.specs.declared.types.BodyTypes.{BodyTypes}
use Rattle.idl_declared_types.specs.declared.types.Types as program_types
use Rattle.idl_rule_definitions.specs.Attributes.{switch_is_word}
use Rattle.idl_rule_definitions.specs.Nodes.{Declared, Node}
use Rattle.idl_constructs.specs.SeenNodes.{seen_construct, seen_declared, seen_result, list_at, seen_node, seen_nodes}
use Rattle.idl_rule_definitions.specs.Types.{IdlType, Names, declared_type, type_of, switch_type, type_of_tag}
use Rattle.idl_rule_definitions.specs.Scene.{Scene, Scoped, scoped_from, names_behind, Body, bodies, body_of, place_of, type_of_body}
use Rattle.idl_rule_definitions.specs.Scene.{is_nonencapsulated_body, parts_of, tag_type, enumerators_in, Use, use_of}
use Rattle.idl_rule_definitions.specs.VariableRules.{is_right_variable, variables, may_be_switched, has_no_variable, has_wrong_variable}
use Rattle.idl_declared_types.specs.LabelValues.{Holds, values_of}
use Rattle.idl_declared_types.specs.Kinds.{type_at}
use Rattle.idl_declared_types.specs.Places.{found_place}

-- ## Names at the nodes of the program

-- the names, with those that nodes declare
abbrev pub names_past : Known → Names → List Node → Names
names_past known names [] = names
names_past known names (n ∷ ns) = names_past known (names_behind known names n) ns

-- the nodes for which the first i of the program stand
abbrev pub front : program_nodes.Nodes → ℕ → List Node
front n i = flat_map (seen_node n.lists.items) (take i n.items.items)

-- the names before node i of the program
abbrev pub names_at : Known → program_nodes.Nodes → ℕ → Names
names_at known n i = names_past known [] (front n i)

-- the nodes for which the first i of the program stand, each with its names
abbrev pub scoped_front : Known → program_nodes.Nodes → ℕ → List Scoped
scoped_front known n i = scoped_from known [] (front n i)

-- the scene of the program's nodes
abbrev pub scene_seen : Known → program_nodes.Nodes → Scene
scene_seen known n = record { known = known; nodes = scoped_from known [] (seen_nodes n) }

-- ## The types of a node

-- the variable of switch_is is no tag
abbrev pub has_wrong_switch_variable : Scene → Use → Bool
has_wrong_switch_variable s u = list_any (λ v. not (is_right_variable s u may_be_switched v)) (variables (switch_is_word ∷ []) u.construct.attributes)

-- what is noted of a declarator with its list
pub record IsTypedUse (s : Scene) (ks : List Kind) (u : Use) (t : Typed) : Type 0 where
  pub declared_as : type_at ks t.declared_as ≡ u.declared_as
  pub of : type_at ks t.of ≡ u.type
  pub no_variable : t.no_variable ≡ has_no_variable u
  pub wrong_variable : t.wrong_variable ≡ has_wrong_variable s u
  pub wrong_switch_variable : t.wrong_switch_variable ≡ has_wrong_switch_variable s u

abbrev pub tag_seen : List Kind → Typed → Option IdlType
tag_seen ks t = elim t.has_tag [ true ↦ Some (type_at ks t.of) | false ↦ None ]

-- what is noted of a node of the program, before which these names stand
abbrev pub IsTyped : {A : Type 0} → Scene → Names → List Kind → List (Vec declared.Declared A) → program_node.Node → Typed → Type 0
IsTyped s names ks lists (node.Declarator list index it) t = IsTypedUse s ks (use_of s.known names (list_at lists list) index (seen_declared it)) t
IsTyped s names ks lists (node.Result it) t = IsTypedUse s ks (use_of s.known names [] 0 (seen_result it)) t
IsTyped s names ks lists (node.Switch c of) t = type_at ks t.of ≡ switch_type names of.now
IsTyped s names ks lists (node.Tag c kind tag) t = type_at ks t.of ≡ type_of_tag s.known c.file kind tag.now
IsTyped s names ks lists (node.Body c body) t =
    type_at ks t.of ≡ type_of_body (record { construct = seen_construct c; names = names; body = seen_type body.now })
IsTyped s names ks lists (node.Labels c body) t = tag_seen ks t ≡ tag_type (seen_construct c) names (seen_type body.now)
IsTyped s names ks lists _ t = Unit {0}

-- the numbers that are noted are among the first n
abbrev pub AreTypedWithin : ℕ → Typed → Type 0
AreTypedWithin n t = (t.declared_as < n) × (t.of < n)

-- a scene without nodes
abbrev pub bare : Known → Scene
bare known = record { known = known; nodes = [] }

-- ## Bodies

-- the body that a node of the program is
abbrev pub body_at : Names → Option program_node.Node → Option Body
body_at names (Some (node.Body c body)) = Some (record { construct = seen_construct c; names = names; body = seen_type body.now })
body_at names _ = None

-- what is noted of a body
pub record IsBody (s : Scene) (n : program_nodes.Nodes) (ks : List Kind) (body : Body) (b : BodyTypes) : Type 0 where
  pub place : b.place ≡ place_of body
  pub nonencapsulated : b.nonencapsulated ≡ is_nonencapsulated_body body.body
  -- the types of its members, or of its arms that are not empty
  pub parts : map (type_at ks) b.parts.items ≡ parts_of s.known body
  pub values : Holds b.values (values_of s.known (enumerators_in body.body))
  -- the node of the program that it is
  pub node : body_at (names_at s.known n b.node) (slice_get n.items.items b.node) ≡ Some body

-- ## All

-- what is noted of all nodes
pub record IsTypes (s : Scene) (n : program_nodes.Nodes) (t : program_types.Types) : Type 0 where
  pub count : length t.typed.items ≡ length n.items.items
  pub typed : (i : ℕ) (it : program_node.Node) (typed : Typed) → slice_get n.items.items i ≡ Some it → slice_get t.typed.items i ≡ Some typed
      → IsTyped s (names_at s.known n i) t.kinds n.lists.items it typed
  pub body_count : length t.bodies.items ≡ length (bodies s)
  pub body : (i : ℕ) (body : Body) (b : BodyTypes) → slice_get (bodies s) i ≡ Some body → slice_get t.bodies.items i ≡ Some b
      → IsBody s n t.kinds body b
  -- the first body of a place
  pub first : (place : Place) → body_of s place ≡ option_and_then (λ i. slice_get (bodies s) i) (found_place place t.by_place)
