-- What the rules speak of: the files of a compilation, and all that is in them, as one list in the order of the text.
use Rattle.std.specs.Prelude.{ℕ, ◌+◌, ℤ, pos, Bool, true, false, ◌==◌, List, [], ◌∷◌, ◌++◌, length, map, Option, Some, None, Result, Ok, Err}
use Rattle.std.specs.List.{flat_map}
use Rattle.nd_base.specs.declared.octets.Place.{Place}
use Rattle.idl_grammar.specs.declared.words.Spelling.{Spelling}
use Rattle.idl_grammar.specs.declared.attributes.PointerClass.{PointerClass}
use Rattle.idl_grammar.specs.declared.types.SimpleType.{SimpleType}
use Rattle.idl_grammar.specs.declared.types.SwitchType.{SwitchType}
use Rattle.idl_grammar.specs.declared.types.TagKind.{TagKind}
use Rattle.idl_grammar.specs.Tree.{Expr, Attribute, AttributeKind, Attributes, Declarator, Init, Enumerator, Label, TypeSpec, Members, Cases, Arms}
use Rattle.idl_grammar.specs.Tree.{Arm, Parameter, Export, Tree}
use Rattle.idl_grammar.specs.Tree as tree
use Rattle.idl_scope.specs.declared.meaning.Meaning.{Meaning}
use Rattle.idl_scope.specs.declared.meaning.Meaning.TheVariants as meaning
use Rattle.idl_scope.specs.Known.{Ended, Known, meaning_in}
use Rattle.idl_scope.specs.Value.{value}
use Rattle.idl_scope.specs.Steps.{parameters_of}
use Rattle.idl_rule_definitions.specs.Attributes.{attribute_list, default_class_in, switch_type_in}

-- ## The files of a compilation, with what is known of their names

pub record World : Type 0 where
  -- in the order in which their resolving ended; the main file is number 0
  pub files : List Ended
  pub known : Known

abbrev or_zero : {X : Type 0} → Result ℤ X → ℤ
or_zero (Ok z) = z
or_zero (Err f) = pos 0

-- The value of an expression. Each expression of files that are resolved has one.
abbrev pub value_in : Known → Expr → ℤ
value_in known e = or_zero (value (meaning_in known) e)

abbrev number_meant : Option Meaning → Option ℤ
number_meant (Some (meaning.Number z)) = Some z
number_meant _ = None

-- the number that a name stands for
abbrev pub number_of : Known → List ℕ → Option ℤ
number_of known name = number_meant (meaning_in known name)

-- ## Each attribute, type, label, enumerator and declarator, where it stands

-- `c` is the construct in which something stands: a declaration, member, parameter or arm.

-- ### Where something stands

pub data Position : Type 0 where
  InHeader : Position
  InTypedef : Position
  -- a struct, union or enum in a declaration of its own
  InTaggedType : Position
  InMember : Position
  InParameter : Position
  -- an arm of an encapsulated union, whose cases stand before its arms
  InArm : Position
  -- an arm of a non-encapsulated union, whose cases stand in attributes
  InCasedArm : Position
  InOperation : Position

pub record Construct : Type 0 where
  pub file : ℕ
  pub position : Position
  -- the octet where it begins
  pub at : ℕ
  pub attributes : List Attribute
  -- the class that the file's header gives to pointers without one
  pub default : Option PointerClass

-- a construct in the same file
abbrev pub inside : Construct → Position → ℕ → Option Attributes → Construct
inside c position at attributes = record { file = c.file; position = position; at = at; attributes = attribute_list attributes; default = c.default }

-- an octet of the same file
abbrev pub place_in : Construct → ℕ → Place
place_in c at = record { file = c.file; at = at }

-- A name that is declared for a type, with stars and dimensions.
pub record Declared : Type 0 where
  pub construct : Construct
  -- a typedef of pipes, whose elements have this type
  pub is_pipe : Bool
  pub type : TypeSpec
  pub declarator : Declarator

abbrev pub declared : Construct → TypeSpec → Declarator → Declared
declared c type d = record { construct = c; is_pipe = false; type = type; declarator = d }

-- A label of an arm, and the octet where it begins, or where its attribute begins. A default has no value.
pub record ArmLabel : Type 0 where
  pub at : ℕ
  pub value : Option Expr

pub data Node : Type 0 where
  -- the header of a file, with the octet of its attribute list
  HeaderNode : (c : Construct) (at : ℕ) → Node
  -- an attribute, after these of its list
  AttributeNode : (c : Construct) (before : List Attribute) (attribute : Attribute) → Node
  -- a type that is to tell the arms of a union apart
  SwitchNode : (c : Construct) (type : SwitchType) → Node
  -- a tag without its body
  TagNode : (c : Construct) (kind : TagKind) (tag : Spelling) → Node
  -- a struct, union or enum with its body
  BodyNode : (c : Construct) (body : TypeSpec) → Node
  EnumeratorNode : (c : Construct) (name : Spelling) → Node
  -- a label of a union with this body, after these of its labels
  LabelNode : (c : Construct) (body : TypeSpec) (before : List ArmLabel) (label : ArmLabel) → Node
  EmptyArmNode : (c : Construct) → Node
  -- A declarator, or the result of an operation. A member or parameter is number `index` of its list; other lists are empty.
  DeclaratorNode : (list : List Declared) (index : ℕ) (it : Declared) → Node
  ConstantNode : (c : Construct) (type : SimpleType) (star : Bool) (value : Init) → Node
  -- a declaration that is a type alone
  TypeNode : (c : Construct) (type : TypeSpec) → Node
  OperationNode : (c : Construct) (name : Spelling) (parameters : List Declared) (result : TypeSpec) → Node

-- ### Lists

-- the attributes of a list, after these
abbrev pub attribute_nodes_from : Construct → List Attribute → List Attribute → List Node
attribute_nodes_from c before [] = []
attribute_nodes_from c before (a ∷ more) = AttributeNode c before a ∷ attribute_nodes_from c (before ++ a ∷ []) more

abbrev pub attribute_nodes : Construct → List Node
attribute_nodes c = attribute_nodes_from c [] c.attributes

abbrev pub switch_node : Construct → Option SwitchType → List Node
switch_node c None = []
switch_node c (Some s) = SwitchNode c s ∷ []

-- the type of the switch_type of a declaration
abbrev pub switch_nodes : Construct → List Node
switch_nodes c = switch_node c (switch_type_in c.attributes)

-- the members of a struct that is in a construct
abbrev pub declared_members : Construct → Members → List Declared
declared_members c tree.no_members = []
declared_members c (tree.next_member at a type ds others) = map (declared (inside c InMember at a) type) ds ++ declared_members c others

abbrev pub parameter_construct : Construct → Parameter → Construct
parameter_construct c p = inside c InParameter p.at p.attributes

abbrev pub declared_parameters : Construct → List Parameter → List Declared
declared_parameters c ps = map (λ p. declared (parameter_construct c p) p.type p.declarator) ps

-- declarators of a list, from this index on
abbrev pub declarator_nodes : List Declared → ℕ → List Declared → List Node
declarator_nodes list index [] = []
declarator_nodes list index (d ∷ ds) = DeclaratorNode list index d ∷ declarator_nodes list (index + 1) ds

-- ### Labels

abbrev pub arm_label : Label → ArmLabel
arm_label (tree.Value at e) = record { at = at; value = Some e }
arm_label (tree.Default at) = record { at = at; value = None }

abbrev pub labels_said : ℕ → AttributeKind → List ArmLabel
labels_said at (tree.Case values) = map (λ e. record { at = at; value = Some e }) values
labels_said at tree.Default = record { at = at; value = None } ∷ []
labels_said at _ = []

-- the labels that attributes give
abbrev pub labels_in : List Attribute → List ArmLabel
labels_in attributes = flat_map (λ a. labels_said a.at a.kind) attributes

abbrev pub arm_attributes : Arm → List Attribute
arm_attributes (tree.Empty at a) = attribute_list a
arm_attributes (tree.Typed at a type d) = attribute_list a

-- an arm of a union with its labels, and in which kind of union it stands
pub record LabelledArm : Type 0 where
  pub position : Position
  pub labels : List ArmLabel
  pub arm : Arm

abbrev labelled : Position → List ArmLabel → Arm → LabelledArm
labelled position labels arm = record { position = position; labels = labels; arm = arm }

abbrev pub arms_of_cases : Cases → List LabelledArm
arms_of_cases tree.no_cases = []
arms_of_cases (tree.next_case labels arm others) = labelled InArm (map arm_label labels) arm ∷ arms_of_cases others

abbrev pub arms_of_arms : Arms → List LabelledArm
arms_of_arms tree.no_arms = []
arms_of_arms (tree.next_arm arm others) = labelled InCasedArm (labels_in (arm_attributes arm)) arm ∷ arms_of_arms others

-- the arms of a union
abbrev pub arms_of : TypeSpec → List LabelledArm
arms_of (tree.EncapsulatedUnion at tag d name cases) = arms_of_cases cases
arms_of (tree.NonEncapsulatedUnion at tag arms) = arms_of_arms arms
arms_of _ = []

-- the labels of a union, in the order of the text
abbrev pub labels_of : TypeSpec → List ArmLabel
labels_of body = flat_map (λ a. a.labels) (arms_of body)

-- labels of a union, after these
abbrev pub label_nodes : Construct → TypeSpec → List ArmLabel → List ArmLabel → List Node
label_nodes c body before [] = []
label_nodes c body before (l ∷ ls) = LabelNode c body before l ∷ label_nodes c body (before ++ l ∷ []) ls

-- ### Types

abbrev mutual
  -- a type, with all that is in it
  pub type_nodes : Construct → TypeSpec → List Node
  type_nodes c (tree.Simple s) = []
  type_nodes c (tree.Name n) = []
  type_nodes c (tree.Tag at kind tag) = TagNode c kind tag ∷ []
  type_nodes c (tree.Struct at tag members) = BodyNode c (tree.Struct at tag members) ∷ member_nodes c (declared_members c members) 0 members
  type_nodes c (tree.EncapsulatedUnion at tag d name cases) =
      BodyNode c (tree.EncapsulatedUnion at tag d name cases) ∷ SwitchNode c d.of
      ∷ label_nodes c (tree.EncapsulatedUnion at tag d name cases) [] (labels_of (tree.EncapsulatedUnion at tag d name cases)) ++ case_nodes c cases
  type_nodes c (tree.NonEncapsulatedUnion at tag arms) =
      BodyNode c (tree.NonEncapsulatedUnion at tag arms)
      ∷ label_nodes c (tree.NonEncapsulatedUnion at tag arms) [] (labels_of (tree.NonEncapsulatedUnion at tag arms)) ++ arms_nodes c arms
  type_nodes c (tree.Enum at tag es) = BodyNode c (tree.Enum at tag es) ∷ map (λ e. EnumeratorNode c e.name) es

  -- members of a list, from this index on
  pub member_nodes : Construct → List Declared → ℕ → Members → List Node
  member_nodes c list index tree.no_members = []
  member_nodes c list index (tree.next_member at a type ds others) =
      attribute_nodes (inside c InMember at a) ++ type_nodes (inside c InMember at a) type
      ++ declarator_nodes list index (map (declared (inside c InMember at a) type) ds) ++ member_nodes c list (index + length ds) others

  pub case_nodes : Construct → Cases → List Node
  case_nodes c tree.no_cases = []
  case_nodes c (tree.next_case labels arm others) = arm_nodes c InArm arm ++ case_nodes c others

  pub arms_nodes : Construct → Arms → List Node
  arms_nodes c tree.no_arms = []
  arms_nodes c (tree.next_arm arm others) = arm_nodes c InCasedArm arm ++ arms_nodes c others

  pub arm_nodes : Construct → Position → Arm → List Node
  arm_nodes c position (tree.Empty at a) = attribute_nodes (inside c position at a) ++ EmptyArmNode (inside c position at a) ∷ []
  arm_nodes c position (tree.Typed at a type d) =
      attribute_nodes (inside c position at a) ++ type_nodes (inside c position at a) type
      ++ DeclaratorNode [] 0 (declared (inside c position at a) type d) ∷ []

-- ### Declarations

abbrev pub parameter_nodes : Construct → List Declared → ℕ → List Parameter → List Node
parameter_nodes c list index [] = []
parameter_nodes c list index (p ∷ ps) =
    attribute_nodes (parameter_construct c p) ++ type_nodes (parameter_construct c p) p.type
    ++ DeclaratorNode list index (declared (parameter_construct c p) p.type p.declarator) ∷ parameter_nodes c list (index + 1) ps

-- what a typedef declares
abbrev pub typedef_node : Construct → Bool → TypeSpec → Declarator → Node
typedef_node c pipe type d = DeclaratorNode [] 0 (record { construct = c; is_pipe = pipe; type = type; declarator = d })

-- the result of an operation: its type as it stands, without attributes
abbrev pub result_of : Construct → TypeSpec → Spelling → Declared
result_of c type name = declared (record c { attributes = [] }) type (record { stars = []; name = name; dimensions = [] })

abbrev pub operation_nodes : Construct → TypeSpec → Spelling → List Parameter → List Node
operation_nodes c result name ps =
    attribute_nodes c ++ type_nodes c result ++ DeclaratorNode [] 0 (result_of c result name)
    ∷ parameter_nodes c (declared_parameters c ps) 0 ps ++ OperationNode c name (declared_parameters c ps) result ∷ []

-- A declaration. The operations of files other than the main one are passed over.
abbrev pub export_nodes : Bool → Construct → Export → List Node
export_nodes is_main header (tree.Typedef at a pipe type ds) =
    attribute_nodes (inside header InTypedef at a) ++ switch_nodes (inside header InTypedef at a)
    ++ type_nodes (inside header InTypedef at a) type ++ map (typedef_node (inside header InTypedef at a) pipe type) ds
export_nodes is_main header (tree.Const at type star name value) = ConstantNode (inside header InTypedef at None) type star value ∷ []
export_nodes is_main header (tree.Tagged at a type) =
    attribute_nodes (inside header InTaggedType at a) ++ switch_nodes (inside header InTaggedType at a)
    ++ type_nodes (inside header InTaggedType at a) type ++ TypeNode (inside header InTaggedType at a) type ∷ []
export_nodes is_main header (tree.Operation at a result name ps) =
    elim is_main [ true ↦ operation_nodes (inside header InOperation at a) result name (parameters_of ps) | false ↦ [] ]

-- ### Files

-- the header of a file; a file begins with its attributes
abbrev pub header_of : Ended → Construct
header_of f = record {
  file = f.file;
  position = InHeader;
  at = f.tree.attributes.at;
  attributes = f.tree.attributes.list;
  default = default_class_in f.tree.attributes.list;
}

abbrev pub file_nodes : Ended → List Node
file_nodes f =
    HeaderNode (header_of f) f.tree.attributes.at ∷ attribute_nodes (header_of f)
    ++ flat_map (export_nodes (f.file == 0) (header_of f)) f.tree.exports

-- The files stand in the order in which their resolving ended.
unfoldable pub nodes : World → List Node
nodes w = flat_map file_nodes w.files
