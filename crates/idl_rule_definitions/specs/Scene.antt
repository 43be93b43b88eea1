-- The nodes of all files, each with the names of types that are declared before it.
-- `t` is a type, `u` a declarator with its type, `b` a body, `place` the one by which a struct, union or enum is reported.
use Rattle.std.specs.Prelude.{ℕ, suc, zero, Bool, true, false, ◌==◌, ◌&&◌, List, [], ◌∷◌, ◌++◌, map, Option, Some, None, is_none, option_map}
use Rattle.std.specs.List.{list_all, flat_map}
use Rattle.nd_base.specs.declared.octets.Place.{Place}
use Rattle.idl_grammar.specs.declared.types.SwitchType.{SwitchType}
use Rattle.idl_grammar.specs.Tree.{Attribute, TypeSpec, Arm, Enumerator}
use Rattle.idl_grammar.specs.Tree as tree
use Rattle.idl_scope.specs.Known.{Known}
use Rattle.idl_rule_definitions.specs.Nodes.{World, Construct, Position, InTypedef, InTaggedType, Declared, declared, inside, declared_members}
use Rattle.idl_rule_definitions.specs.Nodes.{arms_of, Node, BodyNode, DeclaratorNode, nodes}
use Rattle.idl_rule_definitions.specs.Attributes.{switch_type_in}
use Rattle.idl_rule_definitions.specs.Types.{IdlType, Struct, Union, Enum, Array, Text, Pointer, Pipe, Names, type_of, declared_type, switch_type}
use Rattle.idl_rule_definitions.specs.Types.{place_of_body}

pub record Scoped : Type 0 where
  pub names : Names
  pub node : Node

pub record Scene : Type 0 where
  pub known : Known
  pub nodes : List Scoped

-- ## Names of types

abbrev pub is_typedef : Position → Bool
is_typedef InTypedef = true
is_typedef _ = false

-- the names, with those that a node declares
abbrev pub names_behind : Known → Names → Node → Names
names_behind known names (DeclaratorNode list index d) =
    elim (is_typedef d.construct.position) [ true ↦ names ++ (d.declarator.name.octets, type_of known names d) ∷ [] | false ↦ names ]
names_behind known names _ = names

abbrev pub scoped_from : Known → Names → List Node → List Scoped
scoped_from known names [] = []
scoped_from known names (n ∷ ns) = record { names = names; node = n } ∷ scoped_from known (names_behind known names n) ns

unfoldable pub scene_of : World → Scene
scene_of w = record { known = w.known; nodes = scoped_from w.known [] (nodes w) }

-- ## Bodies

-- a struct, union or enum with its body
pub record Body : Type 0 where
  pub construct : Construct
  pub names : Names
  pub body : TypeSpec

abbrev pub place_of_type : ℕ → TypeSpec → Place
place_of_type file (tree.Struct at tag _) = place_of_body file at tag
place_of_type file (tree.EncapsulatedUnion at tag d name cases) = place_of_body file at tag
place_of_type file (tree.NonEncapsulatedUnion at tag arms) = place_of_body file at tag
place_of_type file (tree.Enum at tag es) = place_of_body file at tag
place_of_type file _ = record { file = file; at = 0 }

abbrev pub same_place : Place → Place → Bool
same_place p q = p.file == q.file && p.at == q.at

abbrev pub body_by : Names → Node → List Body
body_by names (BodyNode c body) = record { construct = c; names = names; body = body } ∷ []
body_by names _ = []

-- all bodies
abbrev pub bodies : Scene → List Body
bodies s = flat_map (λ n. body_by n.names n.node) s.nodes

abbrev pub place_of : Body → Place
place_of b = place_of_type b.construct.file b.body

abbrev pub body_among : List Body → Place → Option Body
body_among [] place = None
body_among (b ∷ bs) place = elim (same_place (place_of b) place) [ true ↦ Some b | false ↦ body_among bs place ]

-- the body of a struct, union or enum
abbrev pub body_of : Scene → Place → Option Body
body_of s place = body_among (bodies s) place

-- the type that a body defines
abbrev type_defined : Place → TypeSpec → IdlType
type_defined place (tree.Struct at tag _) = Struct place
type_defined place (tree.Enum at tag es) = Enum place
type_defined place _ = Union place

abbrev pub type_of_body : Body → IdlType
type_of_body b = type_defined (place_of b) b.body

-- ## What is in a body

abbrev pub arm_declared : Construct → Position → Arm → List Declared
arm_declared c position (tree.Empty at a) = []
arm_declared c position (tree.Typed at a type d) = declared (inside c position at a) type d ∷ []

-- the members of a struct, or the arms of a union that are not empty
abbrev pub parts_declared : Construct → TypeSpec → List Declared
parts_declared c (tree.Struct at tag members) = declared_members c members
parts_declared c body = flat_map (λ a. arm_declared c a.position a.arm) (arms_of body)

-- the types of these
abbrev pub parts_of : Known → Body → List IdlType
parts_of known b = map (type_of known b.names) (parts_declared b.construct b.body)

abbrev pub parts_of_found : Known → Option Body → List IdlType
parts_of_found known None = []
parts_of_found known (Some b) = parts_of known b

-- The types that a type holds in its place: those of its members, of its element, or of its arms. A union's tag is none of them.
abbrev pub in_place : Scene → IdlType → List IdlType
in_place s (Struct place) = parts_of_found s.known (body_of s place)
in_place s (Union place) = parts_of_found s.known (body_of s place)
in_place s (Array t count varying) = t ∷ []
in_place s (Text t count) = t ∷ []
in_place s (Pipe t) = t ∷ []
in_place s _ = []

abbrev pub is_nonencapsulated_body : TypeSpec → Bool
is_nonencapsulated_body (tree.NonEncapsulatedUnion at tag arms) = true
is_nonencapsulated_body _ = false

abbrev pub is_found_nonencapsulated : Option Body → Bool
is_found_nonencapsulated None = false
is_found_nonencapsulated (Some b) = is_nonencapsulated_body b.body

-- a non-encapsulated union
abbrev pub is_nonencapsulated : Scene → IdlType → Bool
is_nonencapsulated s (Union place) = is_found_nonencapsulated (body_of s place)
is_nonencapsulated s _ = false

abbrev pub names_its_tag : Position → Bool
names_its_tag InTypedef = true
names_its_tag InTaggedType = true
names_its_tag _ = false

abbrev pub switch_where : Bool → Construct → Option SwitchType
switch_where true c = switch_type_in c.attributes
switch_where false c = None

-- The type of a union's tag: it is in the union itself, or in the switch_type of the declaration whose type the union is.
abbrev pub tag_written : Construct → TypeSpec → Option SwitchType
tag_written c (tree.EncapsulatedUnion at tag d name cases) = Some d.of
tag_written c (tree.NonEncapsulatedUnion at tag arms) = switch_where (names_its_tag c.position) c
tag_written c _ = None

abbrev pub tag_type : Construct → Names → TypeSpec → Option IdlType
tag_type c names body = option_map (switch_type names) (tag_written c body)

abbrev pub enumerators_in : TypeSpec → List Enumerator
enumerators_in (tree.Enum at tag es) = es
enumerators_in _ = []

abbrev pub enumerators_found : Option Body → List Enumerator
enumerators_found None = []
enumerators_found (Some b) = enumerators_in b.body

-- the enumerators of an enum
abbrev pub enumerators_of : Scene → Place → List Enumerator
enumerators_of s place = enumerators_found (body_of s place)

-- ## Types and what they are made of

-- a type, what it points to or is made of as an array or pipe, and so on
abbrev pub chain : IdlType → List IdlType
chain (Array t count varying) = Array t count varying ∷ chain t
chain (Text t count) = Text t count ∷ chain t
chain (Pointer class to) = Pointer class to ∷ chain to
chain (Pipe t) = Pipe t ∷ chain t
chain t = t ∷ []

-- the same without the type itself
abbrev pub below : IdlType → List IdlType
below (Array t count varying) = chain t
below (Text t count) = chain t
below (Pointer class to) = chain to
below (Pipe t) = chain t
below t = []

-- no path from a type down to what it holds in its place has more than n types
abbrev pub nests : ℕ → Scene → IdlType → Bool
nests zero s t = false
nests (suc n) s t = list_all (nests n s) (in_place s t)

abbrev pub last_passes : (IdlType → Bool) → List IdlType → Bool
last_passes test [] = false
last_passes test (t ∷ []) = test t
last_passes test (t ∷ u ∷ more) = last_passes test (u ∷ more)

-- from whether the types of its members do
abbrev pub hoists_by : Scene → (IdlType → Bool) → IdlType → Bool
hoists_by s hoists (Array t count varying) = is_none count
hoists_by s hoists (Text t count) = is_none count
hoists_by s hoists (Struct place) = last_passes hoists (in_place s (Struct place))
hoists_by s hoists _ = false

abbrev pub hoists_within : ℕ → Scene → IdlType → Bool
hoists_within zero s t = false
hoists_within (suc n) s t = hoists_by s (hoists_within n s) t

-- A type hoists that is a conformant array or text, or a struct whose last member hoists. It is right of types that nest at most 32 deep, as
-- rule 12 asks of all.
unfoldable pub hoists : Scene → IdlType → Bool
hoists s t = hoists_within 32 s t

-- a declarator where it stands, with its type
pub record Use : Type 0 where
  pub construct : Construct
  -- the members or parameters of its list
  pub list : List Declared
  pub index : ℕ
  pub names : Names
  pub it : Declared
  -- the type of the declarator, but for attributes other than a class
  pub declared_as : IdlType
  pub type : IdlType

abbrev pub use_of : Known → Names → List Declared → ℕ → Declared → Use
use_of known names list index d = record {
  construct = d.construct;
  list = list;
  index = index;
  names = names;
  it = d;
  declared_as = declared_type known names d;
  type = type_of known names d;
}
