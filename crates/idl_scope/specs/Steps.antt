-- What a file says of names, step by step in the order of its text (C706, sections 4.2.2 to 4.2.14).
use Rattle.std.specs.Prelude.{ℕ, Bool, true, false, not, ◌&&◌, List, [], ◌∷◌, ◌++◌, map, Option, Some, None}
use Rattle.std.specs.List.{flat_map, list_all}
use Rattle.idl_grammar.specs.declared.words.Spelling.{Spelling}
use Rattle.idl_grammar.specs.declared.types.SwitchType.{SwitchType}
use Rattle.idl_grammar.specs.declared.types.SwitchType.TheVariants as switch
use Rattle.idl_grammar.specs.declared.types.TagKind.{TagKind}
use Rattle.idl_grammar.specs.declared.types.TagKind.TheVariants as tag_kind
use Rattle.idl_grammar.specs.Tree.{Expr, AttributeKind, Attribute, Attributes, Bound, Declarator, Init, Enumerator, Label, TypeSpec, Members, Cases}
use Rattle.idl_grammar.specs.Tree.{Arms, Arm, Import, Parameter, Parameters, Export, Tree}
use Rattle.idl_grammar.specs.Tree as tree
use Rattle.idl_scope.specs.declared.meaning.Meaning.{Meaning}
use Rattle.idl_scope.specs.declared.meaning.Meaning.TheVariants as meaning

pub data Step : Type 0 where
  -- a type is named
  UseType : (name : Spelling) → Step
  -- A tag is used without its body. After pointers its body may come later.
  UseTag : (kind : TagKind) (tag : Spelling) (behind_pointers : Bool) → Step
  -- a tag with its body
  DefineTag : (kind : TagKind) (tag : Spelling) → Step
  -- a type, constant, enumerator or operation takes its name
  Declare : (name : Spelling) → Step
  -- from here on the name is known
  Know : (name : Spelling) (meaning : Meaning) → Step
  -- from here on the name is known, and stands for the value of the expression
  KnowValue : (name : Spelling) (value : Expr) → Step
  -- from here on the enumerator is known, and stands for 0, or for one more than the one before it
  KnowNext : (name : Spelling) (previous : Option Spelling) → Step
  -- an expression is evaluated
  Evaluate : (value : Expr) → Step
  -- a member or parameter, after these of its list
  Enlist : (before : List Spelling) (name : Spelling) → Step

-- ## Attributes and declarators

abbrev pub value_steps : Expr → List Step
value_steps e = Evaluate e ∷ []

abbrev pub switch_steps : SwitchType → List Step
switch_steps (switch.Simple s) = []
switch_steps (switch.Name n) = UseType n ∷ []

-- The variable of an attribute is not looked up here, but in its own list once all names are resolved.
abbrev pub kind_steps : AttributeKind → List Step
kind_steps (tree.SwitchTypeIs s) = switch_steps s
kind_steps (tree.Case values) = flat_map value_steps values
kind_steps _ = []

abbrev pub attribute_steps : Attributes → List Step
attribute_steps a = flat_map (λ x. kind_steps x.kind) a.list

abbrev pub optional_attribute_steps : Option Attributes → List Step
optional_attribute_steps None = []
optional_attribute_steps (Some a) = attribute_steps a

abbrev pub bound_steps : Option Bound → List Step
bound_steps None = []
bound_steps (Some tree.Star) = []
bound_steps (Some (tree.Count e)) = value_steps e
bound_steps (Some (tree.From e)) = value_steps e
bound_steps (Some (tree.Between e f)) = value_steps e ++ value_steps f

abbrev pub dimension_steps : Declarator → List Step
dimension_steps d = flat_map bound_steps d.dimensions

abbrev pub is_not_empty : List ℕ → Bool
is_not_empty [] = false
is_not_empty (a ∷ more) = true

abbrev pub is_pointer : Declarator → Bool
is_pointer d = is_not_empty d.stars

abbrev pub declared_name : Declarator → Spelling
declared_name d = d.name

-- a member or parameter, after these of its list
abbrev pub listed_steps : List Spelling → Declarator → List Step
listed_steps before d = Enlist before d.name ∷ dimension_steps d

-- members of one type, after these of their list
abbrev pub enlisted_steps : List Spelling → List Declarator → List Step
enlisted_steps before [] = []
enlisted_steps before (d ∷ ds) = listed_steps before d ++ enlisted_steps (before ++ d.name ∷ []) ds

-- ## Types

-- A tag is known in its own body.
abbrev pub tag_steps : TagKind → Option Spelling → List Step
tag_steps kind None = []
tag_steps kind (Some tag) = DefineTag kind tag ∷ []

abbrev pub value_step : Option Spelling → Spelling → Option Expr → Step
value_step previous name (Some e) = KnowValue name e
value_step previous name None = KnowNext name previous

abbrev pub enumerator_steps : Option Spelling → List Enumerator → List Step
enumerator_steps previous [] = []
enumerator_steps previous (e ∷ es) = Declare e.name ∷ value_step previous e.name e.value ∷ enumerator_steps (Some e.name) es

abbrev pub label_steps : Label → List Step
label_steps (tree.Value at e) = value_steps e
label_steps (tree.Default at) = []

abbrev mutual
  -- A type. `behind_pointers`: each of its declarators is a pointer. The name of a discriminant, and the name of the union part after it,
  -- are in no space.
  pub type_steps : Bool → TypeSpec → List Step
  type_steps behind_pointers (tree.Simple s) = []
  type_steps behind_pointers (tree.Name n) = UseType n ∷ []
  type_steps behind_pointers (tree.Tag at kind tag) = UseTag kind tag behind_pointers ∷ []
  type_steps behind_pointers (tree.Struct at tag members) = tag_steps tag_kind.Struct tag ++ member_steps [] members
  type_steps behind_pointers (tree.EncapsulatedUnion at tag d name cases) = tag_steps tag_kind.Union tag ++ switch_steps d.of ++ case_steps cases
  type_steps behind_pointers (tree.NonEncapsulatedUnion at tag arms) = tag_steps tag_kind.Union tag ++ arms_steps arms
  type_steps behind_pointers (tree.Enum at tag es) = tag_steps tag_kind.Enum tag ++ enumerator_steps None es

  -- the members of a struct, after these
  pub member_steps : List Spelling → Members → List Step
  member_steps before tree.no_members = []
  member_steps before (tree.next_member at a type ds others) =
      optional_attribute_steps a ++ type_steps (list_all is_pointer ds) type ++ enlisted_steps before ds
      ++ member_steps (before ++ map declared_name ds) others

  pub case_steps : Cases → List Step
  case_steps tree.no_cases = []
  case_steps (tree.next_case labels arm others) = flat_map label_steps labels ++ arm_steps arm ++ case_steps others

  pub arms_steps : Arms → List Step
  arms_steps tree.no_arms = []
  arms_steps (tree.next_arm arm others) = arm_steps arm ++ arms_steps others

  -- The names of arms are in no list.
  pub arm_steps : Arm → List Step
  arm_steps (tree.Empty at a) = optional_attribute_steps a
  arm_steps (tree.Typed at a type d) = optional_attribute_steps a ++ type_steps (is_pointer d) type ++ dimension_steps d

-- ## Declarations

-- A name of a type is not known in its own bounds.
abbrev pub typedef_steps : Declarator → List Step
typedef_steps d = Declare d.name ∷ dimension_steps d ++ Know d.name meaning.Type ∷ []

-- A constant is not known in its own value.
abbrev pub init_step : Spelling → Init → Step
init_step name (tree.Text s) = Know name meaning.Other
init_step name (tree.Null at) = Know name meaning.Other
init_step name (tree.Value e) = KnowValue name e

-- a parameter, after these of its list
abbrev pub one_parameter_steps : List Spelling → Parameter → List Step
one_parameter_steps before p =
    optional_attribute_steps p.attributes ++ type_steps (is_pointer p.declarator) p.type ++ listed_steps before p.declarator

abbrev pub parameter_steps : List Spelling → List Parameter → List Step
parameter_steps before [] = []
parameter_steps before (p ∷ ps) = one_parameter_steps before p ++ parameter_steps (before ++ p.declarator.name ∷ []) ps

abbrev pub parameters_of : Parameters → List Parameter
parameters_of tree.Absent = []
parameters_of tree.Void = []
parameters_of (tree.Listed ps) = ps

-- An operation is not known in its own parameters. Its result has no declarator, so that a tag there is after no pointer.
abbrev pub operation_steps : Option Attributes → TypeSpec → Spelling → Parameters → List Step
operation_steps a result name ps =
    optional_attribute_steps a ++ type_steps false result ++ Declare name ∷ parameter_steps [] (parameters_of ps) ++ Know name meaning.Other ∷ []

-- A declaration. The operations of files other than the main one are passed over. The stars of a typedef with `pipe` belong to the pipe,
-- which is this project's own choice: its element is after no pointer. Nor is a tag without a declarator.
abbrev pub export_steps : Bool → Export → List Step
export_steps is_main (tree.Typedef at a pipe type ds) =
    optional_attribute_steps a ++ type_steps (not pipe && list_all is_pointer ds) type ++ flat_map typedef_steps ds
export_steps is_main (tree.Const at type star name value) = Declare name ∷ init_step name value ∷ []
export_steps is_main (tree.Tagged at a type) = optional_attribute_steps a ++ type_steps false type
export_steps is_main (tree.Operation at a result name ps) = elim is_main [ true ↦ operation_steps a result name ps | false ↦ [] ]

abbrev pub declaration_steps : Bool → Tree → List Step
declaration_steps is_main t = flat_map (export_steps is_main) t.exports

-- the strings of a file's imports
abbrev pub imports_of : Tree → List Spelling
imports_of t = flat_map (λ m. m.files) t.imports
