-- What a file means that keeps the rules: its interface, with the table of types and the operations.
use Rattle.std.specs.Prelude.{◌≡◌, ℕ, ◌+◌, ◌*◌, Bool, true, false, ◌==◌, List, [], ◌∷◌, ◌++◌, map, Option, Some, None, option_map, ℤ, pos, negsuc}
use Rattle.std.specs.Prelude.{codes}
use Rattle.std.specs.List.{flat_map, list_all}
use Rattle.nd_types.specs.declared.types.TypeId.{TypeId}
use Rattle.nd_types.specs.declared.types.TypeDef.{TypeDef}
use Rattle.nd_types.specs.declared.types.TypeDef.TheVariants as def
use Rattle.nd_types.specs.declared.types.Field.{Field}
use Rattle.nd_types.specs.declared.types.Arm as arm
use Rattle.nd_types.specs.declared.types.AttrVar.{AttrVar}
use Rattle.nd_types.specs.declared.types.Attr.{Attr}
use Rattle.nd_types.specs.declared.types.Attr.TheVariants as attr
use Rattle.nd_types.specs.declared.types.Class.{Class}
use Rattle.nd_types.specs.declared.types.Class.TheVariants as nd_class
use Rattle.nd_types.specs.declared.types.Param.{Param}
use Rattle.nd_types.specs.declared.types.Way.{Way}
use Rattle.nd_types.specs.declared.types.Way.TheVariants as way
use Rattle.nd_types.specs.declared.types.Operation.{Operation}
use Rattle.nd_types.specs.Table.{Table}
use Rattle.nd_types.specs.Kinds.{basic_types}
use Rattle.nd_types.specs.Legal.{has_named_parts, has_names}
use Rattle.idl_lexer.specs.Pieces.{digit_value, number_of}
use Rattle.idl_grammar.specs.declared.attributes.PointerClass.{PointerClass}
use Rattle.idl_grammar.specs.declared.attributes.PointerClass.TheVariants as class
use Rattle.idl_grammar.specs.declared.attributes.Variable.{Variable}
use Rattle.idl_grammar.specs.Tree.{Attribute, AttributeKind, TypeSpec, Arm, Tree}
use Rattle.idl_grammar.specs.Tree as tree
use Rattle.idl_scope.specs.Known.{Ended}
use Rattle.idl_rule_definitions.specs.Nodes.{World, Declared, LabelledArm, arms_of, Node, OperationNode, result_of}
use Rattle.idl_rule_definitions.specs.Nodes as world
use Rattle.idl_rule_definitions.specs.Attributes.{has, first_said, in_word, out_word}
use Rattle.idl_rule_definitions.specs.Types.{IdlType, Void, Handle, Basic, Struct, Union, Enum, Array, Text, Pointer, Pipe, Names, type_of}
use Rattle.idl_rule_definitions.specs.Scene.{Scene, scene_of, Body, body_of, parts_declared, arm_declared, tag_type}
use Rattle.idl_rule_definitions.specs.DeclarationRules.{label_value}
use Rattle.idl_rule_definitions.specs.VariableRules.{Listed, listed_from, variables}
use Rattle.idl_rule_definitions.specs.Numbering.{own_types, number_of_type}
use Rattle.nd_types.specs.Meant.{Meant}

-- ## Members and parameters

abbrev pub number : Scene → IdlType → TypeId
number s t = record { 0 = number_of_type s t }

abbrev pub index_in : Option Listed → ℕ
index_in None = 0
index_in (Some d) = d.index

abbrev pub attr_var : List Declared → Attr → Variable → AttrVar
attr_var list a v = record { attr = a; var = index_in (listed_from 0 list v.name.octets); star = v.star }

-- an attribute of a member or parameter, if it is there
abbrev pub vars_of : List Declared → List Attribute → List ℕ → Attr → List AttrVar
vars_of list attributes word a = map (attr_var list a) (variables (word ∷ []) attributes)

-- the attributes of a member or parameter, in the order in which they are checked
abbrev pub field_vars : List Declared → List Attribute → List AttrVar
field_vars list attributes =
    vars_of list attributes (codes "size_is") attr.Size ++ vars_of list attributes (codes "max_is") attr.Max
    ++ vars_of list attributes (codes "first_is") attr.First ++ vars_of list attributes (codes "length_is") attr.Length
    ++ vars_of list attributes (codes "last_is") attr.Last ++ vars_of list attributes (codes "switch_is") attr.Switch

-- a member or parameter of a list
abbrev pub field : Scene → Names → List Declared → Declared → Field
field s names list d = record {
  name = d.declarator.name.octets;
  of = number s (type_of s.known names d);
  vars = field_vars list d.construct.attributes;
}

-- ## Types

abbrev pub natural : ℤ → ℕ
natural (pos n) = n
natural (negsuc n) = 0

abbrev pub bound : Option ℤ → Option ℕ
bound count = option_map natural count

-- Each pointer has a class by now.
abbrev pub pointer_class : Option PointerClass → Class
pointer_class (Some class.Reference) = nd_class.Ref
pointer_class (Some class.Unique) = nd_class.Unique
pointer_class (Some class.Full) = nd_class.Full
pointer_class None = nd_class.Unique

abbrev pub or_zero : Option ℤ → ℤ
or_zero (Some z) = z
or_zero None = pos 0

-- one arm for each label; a default has the label 0
abbrev pub arm_for : Option (List ℕ) → Option TypeId → ℤ → arm.Arm
arm_for name of label = record { label = label; name = name; of = of }

abbrev pub name_of_arm : Arm → Option (List ℕ)
name_of_arm (tree.Empty at a) = None
name_of_arm (tree.Typed at a type d) = Some d.name.octets

abbrev pub first_type : Scene → Names → List Declared → Option TypeId
first_type s names [] = None
first_type s names (d ∷ ds) = Some (number s (type_of s.known names d))

abbrev pub type_of_arm : Scene → Body → LabelledArm → Option TypeId
type_of_arm s b a = first_type s b.names (arm_declared b.construct a.position a.arm)

abbrev pub arm_by : Scene → Body → LabelledArm → Option ℤ → List arm.Arm
arm_by s b a (Some z) = arm_for (name_of_arm a.arm) (type_of_arm s b a) z ∷ []
arm_by s b a None = []

-- the arms of a union, one for each label that is no default
abbrev pub labelled_arms : Scene → Body → List arm.Arm
labelled_arms s b = flat_map (λ a. flat_map (λ l. arm_by s b a (label_value s.known l)) a.labels) (arms_of b.body)

abbrev pub default_by : Scene → Body → LabelledArm → Option ℤ → List arm.Arm
default_by s b a (Some z) = []
default_by s b a None = arm_for (name_of_arm a.arm) (type_of_arm s b a) (pos 0) ∷ []

abbrev pub first_arm : List arm.Arm → Option arm.Arm
first_arm [] = None
first_arm (a ∷ more) = Some a

abbrev pub default_arm : Scene → Body → Option arm.Arm
default_arm s b = first_arm (flat_map (λ a. flat_map (λ l. default_by s b a (label_value s.known l)) a.labels) (arms_of b.body))

abbrev pub or_handle : Option IdlType → IdlType
or_handle (Some t) = t
or_handle None = Handle

-- A struct of these members. By the grammar it has one.
abbrev pub struct_of : List Field → TypeDef
struct_of [] = def.Enum []
struct_of (f ∷ fs) = def.Struct (f ∷ fs)

-- what a body defines
abbrev pub defined_by : Scene → Body → TypeSpec → TypeDef
defined_by s b (tree.Struct at tag _) = struct_of (map (field s b.names (parts_declared b.construct b.body)) (parts_declared b.construct b.body))
defined_by s b (tree.EncapsulatedUnion at tag d name cases) =
    def.Union (number s (or_handle (tag_type b.construct b.names b.body))) true (labelled_arms s b) (default_arm s b)
defined_by s b (tree.NonEncapsulatedUnion at tag arms) =
    def.Union (number s (or_handle (tag_type b.construct b.names b.body))) false (labelled_arms s b) (default_arm s b)
defined_by s b (tree.Enum at tag es) = def.Enum (map (λ e. or_zero (world.number_of s.known e.name.octets)) es)
defined_by s b _ = def.Enum []

-- Each tag has its body in files that are resolved. Without one it has no values, so that the table is legal whatever the files are.
abbrev pub defined_at : Scene → Option Body → TypeDef
defined_at s None = def.Enum []
defined_at s (Some b) = defined_by s b b.body

-- a body that passes the test
abbrev pub body_if : (TypeSpec → Bool) → Option Body → Option Body
body_if test None = None
body_if test (Some b) = elim (test b.body) [ true ↦ Some b | false ↦ None ]

abbrev pub is_struct : TypeSpec → Bool
is_struct (tree.Struct at tag _) = true
is_struct _ = false

abbrev pub is_union : TypeSpec → Bool
is_union (tree.EncapsulatedUnion at tag d name cases) = true
is_union (tree.NonEncapsulatedUnion at tag arms) = true
is_union _ = false

abbrev pub is_enum : TypeSpec → Bool
is_enum (tree.Enum at tag es) = true
is_enum _ = false

-- What a type is in the table. A tag's body is of its kind in files that are resolved; another is as none.
abbrev pub definition : Scene → IdlType → TypeDef
definition s (Struct place) = defined_at s (body_if is_struct (body_of s place))
definition s (Union place) = defined_at s (body_if is_union (body_of s place))
definition s (Enum place) = defined_at s (body_if is_enum (body_of s place))
definition s (Array t count varying) = def.Array (number s t) (bound count) varying
definition s (Text t count) = def.Text (number s t) (bound count)
definition s (Pointer c to) = def.Pointer (pointer_class c) (number s to)
definition s (Pipe t) = def.Pipe (number s t)
definition s (Basic p) = def.Prim p
definition s _ = def.Context

abbrev pub types_of : Scene → Table
types_of s = basic_types ++ map (λ n. definition s n.type) (own_types s)

-- ## Operations

abbrev pub way_by : Bool → Bool → Way
way_by true true = way.InOut
way_by true false = way.In
way_by false out = way.Out

abbrev pub way_of : Declared → Way
way_of d = way_by (has in_word d.construct.attributes) (has out_word d.construct.attributes)

abbrev pub parameter : Scene → Names → List Declared → Declared → Param
parameter s names list d = record { field = field s names list d; way = way_of d }

abbrev pub result_number : Scene → IdlType → Option TypeId
result_number s Void = None
result_number s t = Some (number s t)

abbrev pub operation_in : Scene → Names → Node → List Operation
operation_in s names (OperationNode c name parameters result) = record {
  name = name.octets;
  params = map (parameter s names parameters) parameters;
  result = result_number s (type_of s.known names (result_of c result name));
} ∷ []
operation_in s names _ = []

-- the operations of the main file, in their order
abbrev pub operations_of : Scene → List Operation
operations_of s = flat_map (λ n. operation_in s n.names n.node) s.nodes

-- the names of members and arms, of operations and of parameters are identifiers
pub record HasIdentifiers (types : Table) (operations : List Operation) : Type 0 where
  pub part_names : list_all has_named_parts types ≡ true
  pub operation_names : list_all has_names operations ≡ true

-- ## The header

-- the number of a UUID's digits, after those of n
abbrev pub uuid_from : ℕ → List ℕ → ℕ
uuid_from n [] = n
uuid_from n (c ∷ cs) = elim (c == 45) [ true ↦ uuid_from n cs | false ↦ uuid_from (16 * n + digit_value c) cs ]

abbrev pub uuid_said : AttributeKind → Option ℕ
uuid_said (tree.Uuid u) = Some (uuid_from 0 u.octets)
uuid_said _ = None

abbrev pub or_none : Option ℕ → ℕ
or_none (Some n) = n
or_none None = 0

abbrev pub major_said : AttributeKind → Option ℕ
major_said (tree.Version major minor) = number_of major.octets
major_said _ = None

abbrev pub minor_said : AttributeKind → Option ℕ
minor_said (tree.Version major None) = Some 0
minor_said (tree.Version major (Some minor)) = number_of minor.octets
minor_said _ = None

abbrev pub header_meant : Scene → Tree → Meant
header_meant s t = record {
  name = t.name.octets;
  uuid = first_said uuid_said t.attributes.list;
  major = or_none (first_said major_said t.attributes.list);
  minor = or_none (first_said minor_said t.attributes.list);
  types = types_of s;
  operations = operations_of s;
}

-- the main file is number 0
abbrev pub main_among : List Ended → List Tree
main_among [] = []
main_among (f ∷ fs) = elim (f.file == 0) [ true ↦ f.tree ∷ [] | false ↦ main_among fs ]

-- The interface that the main file declares, beside the files that it imports.
unfoldable pub meaning : World → List Meant
meaning w = map (header_meant (scene_of w)) (main_among w.files)
