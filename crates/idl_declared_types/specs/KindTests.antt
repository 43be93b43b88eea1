-- For the code: tests of a type by its kind.
use Rattle.std.specs.Prelude.{ℕ, Bool, true, false, Option, Some, None}
use Rattle.idl_declared_types.specs.declared.kinds.Kind.{Kind}
use Rattle.idl_declared_types.specs.declared.kinds.Kind.TheVariants as kind
use Rattle.idl_declared_types.specs.declared.kinds.Class.TheVariants as class
use Rattle.nd_types.specs.declared.types.Primitive.{Primitive}
use Rattle.nd_types.specs.declared.types.Primitive.TheVariants as primitive
use Rattle.nd_types.specs.Kinds.{is_switch_prim}
use Rattle.idl_rule_definitions.specs.Types.{IdlType, Enum}

-- the number of the type to which a kind points
abbrev pub pointee_of : Kind → Option ℕ
pointee_of (kind.Pointer class to) = Some to
pointee_of _ = None

-- the same of a reference pointer alone
abbrev pub referent_of : Kind → Option ℕ
referent_of (kind.Pointer class.Reference to) = Some to
referent_of _ = None

-- char or byte
abbrev pub octet_primitive : Option Primitive → Bool
octet_primitive (Some primitive.Char) = true
octet_primitive (Some primitive.Byte) = true
octet_primitive _ = false

-- what may tell the arms of a union apart
abbrev pub switch_primitive : Option Primitive → Bool
switch_primitive (Some p) = is_switch_prim p
switch_primitive None = false

abbrev pub is_enum_type : IdlType → Bool
is_enum_type (Enum place) = true
is_enum_type _ = false
