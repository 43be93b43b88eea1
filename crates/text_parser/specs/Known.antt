-- Types of a table, whose numbers are all of the table.
use Rattle.std.specs.Prelude.{◌≡◌, ℕ, ◌<◌, Bool, true, false, List, length, Option, Some, None}
use Rattle.std.specs.List.{list_all}
use Rattle.nd_types.specs.declared.types.TypeId.{TypeId}
use Rattle.nd_types.specs.declared.types.TypeDef.{TypeDef}
use Rattle.nd_types.specs.declared.types.TypeDef.TheVariants as def
use Rattle.nd_types.specs.declared.types.Arm.{Arm}
use Rattle.nd_types.specs.Table.{Table, type_at}
use Rattle.nd_types.specs.Legal.{named_types, is_in_table}

-- each type number that a type has is one of the table
abbrev pub AreKnown : Table → Type 0
AreKnown table = list_all (λ d. list_all (is_in_table table) (named_types d)) table ≡ true

-- a type of the table
abbrev pub IsType : Table → TypeDef → Type 0
IsType table d = (t : ℕ) × (type_at table t ≡ Some d)

-- a union of the table with these arms
abbrev pub IsUnion : Table → List Arm → Option Arm → Type 0
IsUnion table arms default = (tag : TypeId) × (encapsulated : Bool) × IsType table (def.Union tag encapsulated arms default)

-- a type that may be missing is one of the table
abbrev pub AreOf : Table → Option TypeId → Type 0
AreOf table None = Unit {0}
AreOf table (Some t) = t.0 < length table

-- the types of numbers: primitives and enumerated types
abbrev pub is_numeral : Option TypeDef → Bool
is_numeral (Some (def.Prim p)) = true
is_numeral (Some (def.Enum values)) = true
is_numeral _ = false

-- the types of cells that pointers have named are of the table
abbrev pub NamesKnown : Table → List (ℕ × ℕ) → Type 0
NamesKnown table ns = list_all (λ x. is_in_table table x.1) ns ≡ true
