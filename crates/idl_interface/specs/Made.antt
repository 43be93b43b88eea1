-- Members, parameters and arms over the numbers of their types, as the program makes them.
use Rattle.std.specs.Prelude.{◌≡◌, ◌≤◌, ℕ, ◌^◌, Bool, true, false, nat_lt, nat_le, List, [], ◌∷◌, ◌++◌, map, length, Vec, Option, Some, None, is_none}
use Rattle.std.specs.Prelude.{option_map, ℤ, pos, codes}
use Rattle.std.specs.List.{flat_map, list_any}
use Rattle.nd_types.specs.declared.types.TypeId.{TypeId}
use Rattle.nd_types.specs.declared.types.Field.{Field}
use Rattle.nd_types.specs.declared.types.Param.{Param}
use Rattle.nd_types.specs.declared.types.Operation.{Operation}
use Rattle.nd_types.specs.declared.types.Arm as arm
use Rattle.nd_types.specs.declared.types.AttrVar.{AttrVar}
use Rattle.nd_types.specs.declared.types.Attr.{Attr}
use Rattle.nd_types.specs.declared.types.Attr.TheVariants as attr
use Rattle.nd_types.specs.declared.types.TypeDef.{TypeDef}
use Rattle.nd_types.specs.declared.types.TypeDef.TheVariants as def
use Rattle.nd_types.specs.declared.TheConstants.{HANDLE, TYPE_LIMIT, PARAM_LIMIT, MEMBER_LIMIT}
use Rattle.nd_types.specs.Legal.{part_count}
use Rattle.nd_types.specs.declared.types.Primitive.{Primitive}
use Rattle.idl_grammar.specs.declared.attributes.Variable.{Variable}
use Rattle.idl_grammar.specs.Tree.{Attribute, Label, TypeSpec}
use Rattle.idl_grammar.specs.Tree as tree
use Rattle.idl_grammar.specs.Seen.{seen_type}
use Rattle.idl_scope.specs.Known.{Known, found}
use Rattle.idl_interface.specs.declared.arms.ValuedArm as program
use Rattle.idl_declared_types.specs.declared.kinds.Kind.{Kind}
use Rattle.idl_declared_types.specs.declared.numbering.Numbers.{Numbers}
use Rattle.idl_interface.specs.declared.definitions.FoundBody.{FoundBody}
use Rattle.idl_interface.specs.declared.definitions.Program.{Program}
use Rattle.idl_rule_definitions.specs.Nodes.{value_in, Declared, LabelledArm, result_of}
use Rattle.idl_rule_definitions.specs.Checked.{world_of}
use Rattle.idl_rule_definitions.specs.Types.{type_of}
use Rattle.idl_rule_definitions.specs.Scene.{Scene, scene_of, Body, body_of, parts_of, tag_type}
use Rattle.idl_rule_definitions.specs.DeclarationRules.{label_value}
use Rattle.idl_rule_definitions.specs.VariableRules.{listed_from, variables}
use Rattle.idl_declared_types.specs.Kinds.{type_at}
use Rattle.idl_constructs.specs.declared.nodes.Declared as declared
use Rattle.idl_constructs.specs.declared.nodes.Node as program_node
use Rattle.idl_constructs.specs.declared.nodes.Node.TheVariants as node
use Rattle.idl_constructs.specs.SeenNodes.{seen_construct, list_at}
use Rattle.idl_declared_types.specs.SeenNumbers.{number_at, AreNumbers}
use Rattle.idl_declared_types.specs.SeenTypes.{IsTypes}
use Rattle.idl_declared_types.specs.SeenOperations.{HasTags, HasOperations, Called}
use Rattle.idl_rule_definitions.specs.Meaning.{types_of, field_vars, way_of, arm_for, name_of_arm, parameter, result_number}
use Rattle.nd_base.specs.declared.octets.Place.{Place}

-- ## Numbers

abbrev pub id : ℕ → TypeId
id n = record { 0 = n }

-- the numbers of types
abbrev pub ids_of : List Kind → Numbers → List ℕ → List TypeId
ids_of ks t kinds = map (λ k. id (number_at ks t k)) kinds

-- the number of a tag's type
abbrev pub tag_id : List Kind → Numbers → Option ℕ → TypeId
tag_id ks t None = HANDLE
tag_id ks t (Some k) = id (number_at ks t k)

-- a bound of 32 bits
abbrev pub is_narrow : Option ℕ → Bool
is_narrow None = true
is_narrow (Some n) = nat_lt n (2 ^ 32)

-- no more members or arms than an interface may have
abbrev pub has_few_parts : TypeDef → Bool
has_few_parts d = nat_le (part_count d) MEMBER_LIMIT

-- no more parameters than an operation may have
abbrev pub has_few_parameters : Operation → Bool
has_few_parameters o = nat_le (length o.params) PARAM_LIMIT

-- ## Members and parameters

abbrev pub index_or : Option ℕ → ℕ
index_or (Some n) = n
index_or None = 0

-- the index of each member or parameter of a list by its name
pub record AreListed (list : List Declared) (t : List (List ℕ × ℕ)) : Type 0 where
  pub index : (name : List ℕ) → found name t ≡ option_map (λ d. d.index) (listed_from 0 list name)

abbrev pub attr_var_by : List (List ℕ × ℕ) → Attr → Variable → AttrVar
attr_var_by t a v = record { attr = a; var = index_or (found v.name.octets t); star = v.star }

abbrev pub vars_by : List (List ℕ × ℕ) → List Attribute → List ℕ → Attr → List AttrVar
vars_by t attributes word a = map (attr_var_by t a) (variables (word ∷ []) attributes)

abbrev pub size_vars_by : List (List ℕ × ℕ) → List Attribute → List AttrVar
size_vars_by t attributes = vars_by t attributes (codes "size_is") attr.Size ++ vars_by t attributes (codes "max_is") attr.Max

abbrev pub range_vars_by : List (List ℕ × ℕ) → List Attribute → List AttrVar
range_vars_by t attributes =
    vars_by t attributes (codes "first_is") attr.First ++ vars_by t attributes (codes "length_is") attr.Length
    ++ vars_by t attributes (codes "last_is") attr.Last

abbrev pub field_vars_by : List (List ℕ × ℕ) → List Attribute → List AttrVar
field_vars_by t attributes =
    vars_by t attributes (codes "size_is") attr.Size ++ vars_by t attributes (codes "max_is") attr.Max
    ++ vars_by t attributes (codes "first_is") attr.First ++ vars_by t attributes (codes "length_is") attr.Length
    ++ vars_by t attributes (codes "last_is") attr.Last ++ vars_by t attributes (codes "switch_is") attr.Switch

abbrev pub field_by : List (List ℕ × ℕ) → Declared → TypeId → Field
field_by t d of = record { name = d.declarator.name.octets; of = of; vars = field_vars_by t d.construct.attributes }

abbrev pub parameter_by : List (List ℕ × ℕ) → Declared → TypeId → Param
parameter_by t d of = record { field = field_by t d of; way = way_of d }

abbrev pub listed_if : Option Variable → List Variable
listed_if None = []
listed_if (Some v) = v ∷ []

-- by a list's table
abbrev pub field_with : List Declared → Declared → TypeId → Field
field_with list d of = record { name = d.declarator.name.octets; of = of; vars = field_vars list d.construct.attributes }

abbrev pub parameter_with : List Declared → Declared → TypeId → Param
parameter_with list d of = record { field = field_with list d of; way = way_of d }

-- each with its type
abbrev pub each_with : {X : Type 0} → (Declared → TypeId → X) → List Declared → List TypeId → List X
each_with make (d ∷ ds) (t ∷ ts) = make d t ∷ each_with make ds ts
each_with make _ _ = []

-- ## Arms

-- an arm with the values of its labels; a default has none
pub record ValuedArm : Type 0 where
  pub name : Option (List ℕ)
  pub labels : List (Option ℤ)

abbrev pub valued : Known → LabelledArm → ValuedArm
valued known a = record { name = name_of_arm a.arm; labels = map (label_value known) a.labels }

abbrev pub seen_valued : program.ValuedArm → ValuedArm
seen_valued a = record { name = option_map (λ s. s.now.octets) a.name; labels = a.labels.items }

abbrev pub value_said : Known → Label → Option ℤ
value_said known (tree.Value at e) = Some (value_in known e)
value_said known (tree.Default at) = None

abbrev pub first_of : List TypeId → Option TypeId
first_of [] = None
first_of (t ∷ ts) = Some t

abbrev pub past_first : List TypeId → List TypeId
past_first [] = []
past_first (t ∷ ts) = ts

-- an arm that is not empty has the first of these types
abbrev pub type_for : Option (List ℕ) → List TypeId → Option TypeId
type_for None ts = None
type_for (Some name) ts = first_of ts

-- the types of the arms after it
abbrev pub types_past : Option (List ℕ) → List TypeId → List TypeId
types_past None ts = ts
types_past (Some name) ts = past_first ts

abbrev pub arm_with : Option (List ℕ) → Option TypeId → Option ℤ → List arm.Arm
arm_with name of (Some z) = arm_for name of z ∷ []
arm_with name of None = []

-- one arm for each label that is no default
abbrev pub arms_with : List ValuedArm → List TypeId → List arm.Arm
arms_with [] ts = []
arms_with (a ∷ more) ts = flat_map (arm_with a.name (type_for a.name ts)) a.labels ++ arms_with more (types_past a.name ts)

-- the first default
abbrev pub default_with : List ValuedArm → List TypeId → Option arm.Arm
default_with [] ts = None
default_with (a ∷ more) ts =
    elim (list_any is_none a.labels) [ true ↦ Some (arm_for a.name (type_for a.name ts) (pos 0)) | false ↦ default_with more (types_past a.name ts) ]

-- ## Bodies

-- the body of a union that has its discriminant with it
abbrev pub is_encapsulated : TypeSpec → Bool
is_encapsulated (tree.EncapsulatedUnion at tag d name cases) = true
is_encapsulated _ = false

-- the body that was found at a place, where it has one
pub record IsFound (s : Scene) (ks : List Kind) (place : Place) (f : FoundBody) : Type 0 where
  pub body : Body
  pub there : body_of s place ≡ Some body
  pub construct : body.construct ≡ seen_construct f.construct.now
  pub type : body.body ≡ seen_type f.body.now
  pub parts : map (type_at ks) f.noted.now.parts.items ≡ parts_of s.known body
  pub tag : option_map (type_at ks) f.noted.now.tag ≡ tag_type body.construct body.names body.body

-- ## All

-- what the rules speak of
abbrev pub scene_in : Program → Scene
scene_in p = scene_of (world_of p.scope.now)

-- what is noted of files
pub record IsProgram (p : Program) : Type 0 where
  pub types : IsTypes (scene_in p) p.nodes.now p.types.now
  pub tags : HasTags (scene_in p) p.types.now
  pub operations : HasOperations (scene_in p) p.nodes.now p.types.now
  pub numbers : AreNumbers (scene_in p) p.types.now.kinds p.numbers.now
  pub few : length (types_of (scene_in p)) ≤ TYPE_LIMIT

-- a primitive type, or a context handle
abbrev pub basic_made : Option Primitive → TypeDef
basic_made (Some p) = def.Prim p
basic_made None = def.Context

-- the parameters of the operation that a node is
abbrev pub parameters_at : {A : Type 0} → List (Vec declared.Declared A) → Option program_node.Node → List Declared
parameters_at lists (Some (node.Operation it number)) = list_at lists number
parameters_at lists _ = []

-- an operation as an interface has it
abbrev pub operation_made : Scene → Called → Operation
operation_made s o = record {
  name = o.name.octets;
  params = map (parameter s o.names o.parameters) o.parameters;
  result = result_number s (type_of s.known o.names (result_of o.construct o.result o.name));
}
