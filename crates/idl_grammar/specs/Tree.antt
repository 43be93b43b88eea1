-- The tree without where it lies in memory: what the grammar relates to texts. Each part has the name that it has in the program.
use Rattle.std.specs.Prelude.{ℕ, Bool, true, List, Option}
use Rattle.idl_grammar.specs.declared.words.Spelling.{Spelling}
use Rattle.idl_grammar.specs.declared.expressions.BinaryOperator.{BinaryOperator}
use Rattle.idl_grammar.specs.declared.expressions.UnaryOperator.{UnaryOperator}
use Rattle.idl_grammar.specs.declared.expressions.Operand.{Operand}
use Rattle.idl_grammar.specs.declared.attributes.PointerClass.{PointerClass}
use Rattle.idl_grammar.specs.declared.attributes.VariableWord.{VariableWord}
use Rattle.idl_grammar.specs.declared.attributes.Variable.{Variable}
use Rattle.idl_grammar.specs.declared.types.SimpleType.{SimpleType}
use Rattle.idl_grammar.specs.declared.types.SwitchType.{SwitchType}
use Rattle.idl_grammar.specs.declared.types.TagKind.{TagKind}
use Rattle.idl_grammar.specs.declared.types.Discriminant.{Discriminant}
use Rattle.idl_grammar.specs.declared.types.Width.{Width}
use Rattle.idl_grammar.specs.declared.types.IntegerType.{IntegerType}
use Rattle.idl_grammar.specs.declared.types.IntegerType.TheVariants.{WidthFirst, UnsignedFirst}

-- ## The tree

pub data Expr : Type 0 where
  Leaf : (operand : Operand) → Expr
  Round : (at : ℕ) (inner : Expr) → Expr
  Unary : (at : ℕ) (operator : UnaryOperator) (operand : Expr) → Expr
  Binary : (left : Expr) (at : ℕ) (operator : BinaryOperator) (right : Expr) → Expr
  Conditional : (condition : Expr) (at : ℕ) (then_part : Expr) (else_part : Expr) → Expr

pub data AttributeKind : Type 0 where
  Uuid : (uuid : Spelling) → AttributeKind
  Version : (major : Spelling) (minor : Option Spelling) → AttributeKind
  Endpoint : (endpoints : List Spelling) → AttributeKind
  Local : AttributeKind
  PointerDefault : (class : PointerClass) → AttributeKind
  Class : (class : PointerClass) → AttributeKind
  In : AttributeKind
  Out : AttributeKind
  String : AttributeKind
  ContextHandle : AttributeKind
  Of : (word : VariableWord) (variable : Variable) → AttributeKind
  SwitchTypeIs : (type : SwitchType) → AttributeKind
  Case : (values : List Expr) → AttributeKind
  Default : AttributeKind
  Idempotent : AttributeKind
  Broadcast : AttributeKind
  Maybe : AttributeKind
  AnySize : AttributeKind
  AnyLength : AttributeKind

pub record Attribute : Type 0 where
  pub at : ℕ
  pub kind : AttributeKind

pub record Attributes : Type 0 where
  pub at : ℕ
  pub list : List Attribute

pub data Bound : Type 0 where
  Star : Bound
  Count : (count : Expr) → Bound
  From : (least : Expr) → Bound
  Between : (least greatest : Expr) → Bound

pub record Declarator : Type 0 where
  pub stars : List ℕ
  pub name : Spelling
  pub dimensions : List (Option Bound)

pub data Init : Type 0 where
  Text : (text : Spelling) → Init
  Null : (at : ℕ) → Init
  Value : (value : Expr) → Init

pub record Enumerator : Type 0 where
  pub name : Spelling
  pub value : Option Expr

pub data Label : Type 0 where
  Value : (at : ℕ) (value : Expr) → Label
  Default : (at : ℕ) → Label

mutual
  pub data TypeSpec : Type 0 where
    Simple : (type : SimpleType) → TypeSpec
    Name : (name : Spelling) → TypeSpec
    Tag : (at : ℕ) (kind : TagKind) (tag : Spelling) → TypeSpec
    Struct : (at : ℕ) (tag : Option Spelling) (members : Members) → TypeSpec
    EncapsulatedUnion : (at : ℕ) (tag : Option Spelling) (discriminant : Discriminant) (name : Option Spelling) (cases : Cases) → TypeSpec
    NonEncapsulatedUnion : (at : ℕ) (tag : Option Spelling) (arms : Arms) → TypeSpec
    Enum : (at : ℕ) (tag : Option Spelling) (enumerators : List Enumerator) → TypeSpec

  pub data Members : Type 0 where
    no_members : Members
    next_member : (at : ℕ) (attributes : Option Attributes) (type : TypeSpec) (declarators : List Declarator) (others : Members) → Members

  pub data Cases : Type 0 where
    no_cases : Cases
    next_case : (labels : List Label) (arm : Arm) (others : Cases) → Cases

  pub data Arms : Type 0 where
    no_arms : Arms
    next_arm : (arm : Arm) (others : Arms) → Arms

  pub data Arm : Type 0 where
    Empty : (at : ℕ) (attributes : Option Attributes) → Arm
    Typed : (at : ℕ) (attributes : Option Attributes) (type : TypeSpec) (declarator : Declarator) → Arm

pub record Import : Type 0 where
  pub files : List Spelling

pub record Parameter : Type 0 where
  pub at : ℕ
  pub attributes : Option Attributes
  pub type : TypeSpec
  pub declarator : Declarator

pub data Parameters : Type 0 where
  Absent : Parameters
  Void : Parameters
  Listed : (list : List Parameter) → Parameters

pub data Export : Type 0 where
  Typedef : (at : ℕ) (attributes : Option Attributes) (pipe : Bool) (type : TypeSpec) (declarators : List Declarator) → Export
  Const : (at : ℕ) (type : SimpleType) (star : Bool) (name : Spelling) (value : Init) → Export
  Tagged : (at : ℕ) (attributes : Option Attributes) (type : TypeSpec) → Export
  Operation : (at : ℕ) (attributes : Option Attributes) (result : TypeSpec) (name : Spelling) (parameters : Parameters) → Export

pub record Tree : Type 0 where
  pub attributes : Attributes
  pub name : Spelling
  pub imports : List Import
  pub exports : List Export

-- ## What an integer type is, in either order of its words

abbrev pub width_of : IntegerType → Width
width_of (WidthFirst w unsigned int) = w
width_of (UnsignedFirst w int) = w

abbrev pub is_without_sign : IntegerType → Bool
is_without_sign (WidthFirst w unsigned int) = unsigned
is_without_sign (UnsignedFirst w int) = true
