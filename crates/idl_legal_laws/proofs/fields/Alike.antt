-- Tests of a type in the table say what those of the type say.
use Rattle.std.proofs.Common.{◌≡◌, Bool, true, false, List, [], ◌∷◌, Option, Some, None, ℤ, refl}
use Rattle.nd_types.specs.declared.types.TypeDef.{TypeDef}
use Rattle.nd_types.specs.declared.types.TypeDef.TheVariants as def
use Rattle.nd_types.specs.declared.types.TypeId.{TypeId}
use Rattle.nd_types.specs.declared.types.Arm.{Arm}
use Rattle.nd_types.specs.declared.types.Field.{Field}
use Rattle.nd_types.specs.Kinds as kinds
use Rattle.idl_grammar.specs.declared.attributes.PointerClass.TheVariants as class
use Rattle.idl_grammar.specs.Tree.{TypeSpec}
use Rattle.idl_grammar.specs.Tree as tree
use Rattle.idl_rule_definitions.specs.Nodes.{Construct}
use Rattle.idl_rule_definitions.specs.Types.{IdlType, Basic, Struct, Union, Enum, Array, Text, Pointer, Pipe, Names, is_array, is_text, is_pipe, is_pointer, is_reference, is_conformant_array}
use Rattle.idl_rule_definitions.specs.Types.{is_conformant_text, is_varying_array}
use Rattle.idl_rule_definitions.specs.Scene.{Scene, Body, body_of, is_nonencapsulated, is_nonencapsulated_body, is_found_nonencapsulated}
use Rattle.idl_rule_definitions.specs.VariableRules.{is_integer, may_be_switched}
use Rattle.idl_rule_definitions.specs.Meaning.{struct_of, defined_by, defined_at, body_if, is_struct, is_union, is_enum}
use Rattle.idl_legal_laws.proofs.fields.Standing.{meant}

-- a test of what no struct, union or enum is
record OfNoBody (test : Option TypeDef → Bool) : Type 0 where
  structs : (fs : List Field) → test (Some (def.Struct fs)) ≡ false
  unions : (t : TypeId) (e : Bool) (arms : List Arm) (d : Option Arm) → test (Some (def.Union t e arms d)) ≡ false
  enums : (vs : List ℤ) → test (Some (def.Enum vs)) ≡ false

no_struct : (test : Option TypeDef → Bool) → OfNoBody test → (fs : List Field) → test (Some (struct_of fs)) ≡ false
no_struct test n [] = n.enums []
no_struct test n (f ∷ fs) = n.structs (f ∷ fs)

no_body : (test : Option TypeDef → Bool) → OfNoBody test → (s : Scene) (b : Body) (t : TypeSpec) → test (Some (defined_by s b t)) ≡ false
no_body test n s b (tree.Struct at tag ms) = no_struct test n _
no_body test n s b (tree.EncapsulatedUnion at tag d name cases) = n.unions _ _ _ _
no_body test n s b (tree.NonEncapsulatedUnion at tag arms) = n.unions _ _ _ _
no_body test n s b (tree.Enum at tag es) = n.enums _
no_body test n s b (tree.Simple t) = n.enums []
no_body test n s b (tree.Name m) = n.enums []
no_body test n s b (tree.Tag at kind tag) = n.enums []

none_found : (test : Option TypeDef → Bool) → OfNoBody test → (s : Scene) (o : Option Body) → test (Some (defined_at s o)) ≡ false
none_found test n s None = n.enums []
none_found test n s (Some b) = no_body test n s b b.body

of_no_body_array : OfNoBody kinds.is_array
of_no_body_array = record { structs = λ fs. refl; unions = λ t e arms d. refl; enums = λ vs. refl }

pub array : (s : Scene) (t : IdlType) → kinds.is_array (meant s t) ≡ is_array t
array s (Array t m v) = refl
array s (Struct p) = none_found kinds.is_array of_no_body_array s (body_if is_struct (body_of s p))
array s (Union p) = none_found kinds.is_array of_no_body_array s (body_if is_union (body_of s p))
array s (Enum p) = none_found kinds.is_array of_no_body_array s (body_if is_enum (body_of s p))
array s _ = refl

of_no_body_text : OfNoBody kinds.is_text
of_no_body_text = record { structs = λ fs. refl; unions = λ t e arms d. refl; enums = λ vs. refl }

pub text : (s : Scene) (t : IdlType) → kinds.is_text (meant s t) ≡ is_text t
text s (Text t m) = refl
text s (Struct p) = none_found kinds.is_text of_no_body_text s (body_if is_struct (body_of s p))
text s (Union p) = none_found kinds.is_text of_no_body_text s (body_if is_union (body_of s p))
text s (Enum p) = none_found kinds.is_text of_no_body_text s (body_if is_enum (body_of s p))
text s _ = refl

of_no_body_pipe : OfNoBody kinds.is_pipe
of_no_body_pipe = record { structs = λ fs. refl; unions = λ t e arms d. refl; enums = λ vs. refl }

pub pipe : (s : Scene) (t : IdlType) → kinds.is_pipe (meant s t) ≡ is_pipe t
pipe s (Pipe t) = refl
pipe s (Struct p) = none_found kinds.is_pipe of_no_body_pipe s (body_if is_struct (body_of s p))
pipe s (Union p) = none_found kinds.is_pipe of_no_body_pipe s (body_if is_union (body_of s p))
pipe s (Enum p) = none_found kinds.is_pipe of_no_body_pipe s (body_if is_enum (body_of s p))
pipe s _ = refl

of_no_body_pointer : OfNoBody kinds.is_pointer
of_no_body_pointer = record { structs = λ fs. refl; unions = λ t e arms d. refl; enums = λ vs. refl }

pub pointer : (s : Scene) (t : IdlType) → kinds.is_pointer (meant s t) ≡ is_pointer t
pointer s (Pointer c t) = refl
pointer s (Struct p) = none_found kinds.is_pointer of_no_body_pointer s (body_if is_struct (body_of s p))
pointer s (Union p) = none_found kinds.is_pointer of_no_body_pointer s (body_if is_union (body_of s p))
pointer s (Enum p) = none_found kinds.is_pointer of_no_body_pointer s (body_if is_enum (body_of s p))
pointer s _ = refl

of_no_body_reference : OfNoBody kinds.is_reference
of_no_body_reference = record { structs = λ fs. refl; unions = λ t e arms d. refl; enums = λ vs. refl }

pub reference : (s : Scene) (t : IdlType) → kinds.is_reference (meant s t) ≡ is_reference t
reference s (Pointer None t) = refl
reference s (Pointer (Some class.Reference) t) = refl
reference s (Pointer (Some class.Unique) t) = refl
reference s (Pointer (Some class.Full) t) = refl
reference s (Struct p) = none_found kinds.is_reference of_no_body_reference s (body_if is_struct (body_of s p))
reference s (Union p) = none_found kinds.is_reference of_no_body_reference s (body_if is_union (body_of s p))
reference s (Enum p) = none_found kinds.is_reference of_no_body_reference s (body_if is_enum (body_of s p))
reference s _ = refl

of_no_body_conformant_array : OfNoBody kinds.is_conformant_array
of_no_body_conformant_array = record { structs = λ fs. refl; unions = λ t e arms d. refl; enums = λ vs. refl }

pub conformant_array : (s : Scene) (t : IdlType) → kinds.is_conformant_array (meant s t) ≡ is_conformant_array t
conformant_array s (Array t None v) = refl
conformant_array s (Array t (Some n) v) = refl
conformant_array s (Struct p) = none_found kinds.is_conformant_array of_no_body_conformant_array s (body_if is_struct (body_of s p))
conformant_array s (Union p) = none_found kinds.is_conformant_array of_no_body_conformant_array s (body_if is_union (body_of s p))
conformant_array s (Enum p) = none_found kinds.is_conformant_array of_no_body_conformant_array s (body_if is_enum (body_of s p))
conformant_array s _ = refl

of_no_body_conformant_text : OfNoBody kinds.is_conformant_text
of_no_body_conformant_text = record { structs = λ fs. refl; unions = λ t e arms d. refl; enums = λ vs. refl }

pub conformant_text : (s : Scene) (t : IdlType) → kinds.is_conformant_text (meant s t) ≡ is_conformant_text t
conformant_text s (Text t None) = refl
conformant_text s (Text t (Some n)) = refl
conformant_text s (Struct p) = none_found kinds.is_conformant_text of_no_body_conformant_text s (body_if is_struct (body_of s p))
conformant_text s (Union p) = none_found kinds.is_conformant_text of_no_body_conformant_text s (body_if is_union (body_of s p))
conformant_text s (Enum p) = none_found kinds.is_conformant_text of_no_body_conformant_text s (body_if is_enum (body_of s p))
conformant_text s _ = refl

of_no_body_varying_array : OfNoBody kinds.is_varying_array
of_no_body_varying_array = record { structs = λ fs. refl; unions = λ t e arms d. refl; enums = λ vs. refl }

pub varying_array : (s : Scene) (t : IdlType) → kinds.is_varying_array (meant s t) ≡ is_varying_array t
varying_array s (Array t m v) = refl
varying_array s (Struct p) = none_found kinds.is_varying_array of_no_body_varying_array s (body_if is_struct (body_of s p))
varying_array s (Union p) = none_found kinds.is_varying_array of_no_body_varying_array s (body_if is_union (body_of s p))
varying_array s (Enum p) = none_found kinds.is_varying_array of_no_body_varying_array s (body_if is_enum (body_of s p))
varying_array s _ = refl

of_no_body_integer : OfNoBody kinds.is_integer
of_no_body_integer = record { structs = λ fs. refl; unions = λ t e arms d. refl; enums = λ vs. refl }

pub integer : (s : Scene) (t : IdlType) → kinds.is_integer (meant s t) ≡ is_integer t
integer s (Basic p) = refl
integer s (Struct p) = none_found kinds.is_integer of_no_body_integer s (body_if is_struct (body_of s p))
integer s (Union p) = none_found kinds.is_integer of_no_body_integer s (body_if is_union (body_of s p))
integer s (Enum p) = none_found kinds.is_integer of_no_body_integer s (body_if is_enum (body_of s p))
integer s _ = refl

-- ## Enums

enum_switched : (s : Scene) (c : Construct) (names : Names) (body : TypeSpec)
    → kinds.is_switch_type (Some (defined_at s (body_if is_enum (Some (record { construct = c; names = names; body = body }))))) ≡ true
enum_switched s c names (tree.Enum at tag es) = refl
enum_switched s c names _ = refl

pub found_switched : (s : Scene) (o : Option Body) → kinds.is_switch_type (Some (defined_at s (body_if is_enum o))) ≡ true
found_switched s None = refl
found_switched s (Some b) = enum_switched s b.construct b.names b.body

-- what may tell arms apart may do so in the table
pub switched : (s : Scene) (t : IdlType) → may_be_switched t ≡ true → kinds.is_switch_type (meant s t) ≡ true
switched s (Basic p) h = h
switched s (Enum p) h = found_switched s (body_of s p)
switched s _ h = absurd (let e : false ≡ true = h in cc)

-- ## Unions

struct_no_union : (fs : List Field) → kinds.is_nonencapsulated (Some (struct_of fs)) ≡ false
struct_no_union [] = refl
struct_no_union (f ∷ fs) = refl

no_union_in : (s : Scene) (c : Construct) (names : Names) (body : TypeSpec)
    → kinds.is_nonencapsulated (Some (defined_at s (body_if is_struct (Some (record { construct = c; names = names; body = body }))))) ≡ false
no_union_in s c names (tree.Struct at tag ms) = struct_no_union _
no_union_in s c names _ = refl

pub struct_is_no_union : (s : Scene) (o : Option Body) → kinds.is_nonencapsulated (Some (defined_at s (body_if is_struct o))) ≡ false
struct_is_no_union s None = refl
struct_is_no_union s (Some b) = no_union_in s b.construct b.names b.body

no_union_by : (s : Scene) (c : Construct) (names : Names) (body : TypeSpec)
    → kinds.is_nonencapsulated (Some (defined_at s (body_if is_enum (Some (record { construct = c; names = names; body = body }))))) ≡ false
no_union_by s c names (tree.Enum at tag es) = refl
no_union_by s c names _ = refl

pub enum_is_no_union : (s : Scene) (o : Option Body) → kinds.is_nonencapsulated (Some (defined_at s (body_if is_enum o))) ≡ false
enum_is_no_union s None = refl
enum_is_no_union s (Some b) = no_union_by s b.construct b.names b.body

union_by : (s : Scene) (c : Construct) (names : Names) (body : TypeSpec)
    → kinds.is_nonencapsulated (Some (defined_at s (body_if is_union (Some (record { construct = c; names = names; body = body }))))) ≡ is_nonencapsulated_body body
union_by s c names (tree.EncapsulatedUnion at tag d name cases) = refl
union_by s c names (tree.NonEncapsulatedUnion at tag arms) = refl
union_by s c names _ = refl

pub union_found : (s : Scene) (o : Option Body) → kinds.is_nonencapsulated (Some (defined_at s (body_if is_union o))) ≡ is_found_nonencapsulated o
union_found s None = refl
union_found s (Some b) = union_by s b.construct b.names b.body

pub nonencapsulated : (s : Scene) (t : IdlType) → kinds.is_nonencapsulated (meant s t) ≡ is_nonencapsulated s t
nonencapsulated s (Struct p) = struct_is_no_union s (body_of s p)
nonencapsulated s (Union p) = union_found s (body_of s p)
nonencapsulated s (Enum p) = enum_is_no_union s (body_of s p)
nonencapsulated s _ = refl
