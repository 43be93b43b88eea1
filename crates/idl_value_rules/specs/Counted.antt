-- For the code: what is counted of the dimensions of types, by their numbers.
use Rattle.std.specs.Prelude.{◌≡◌, ℕ, Bool, true, false, List, [], Option, Some, None, slice_get, is_none}
use Rattle.std.specs.List.{list_any}
use Rattle.idl_value_rules.specs.declared.counted.Counted.{Counted}
use Rattle.idl_declared_types.specs.declared.kinds.Kind.{Kind}
use Rattle.idl_rule_definitions.specs.Types.{IdlType, Void, or_void, is_array}
use Rattle.idl_rule_definitions.specs.Scene.{chain}
use Rattle.idl_declared_types.specs.Kinds.{inner_of}
use Rattle.idl_rule_definitions.specs.TypeRules.{dimensions, product, has_wrong_count, are_many, has_many_not_fixed}

-- this is counted of a type
pub record IsCounted (t : IdlType) (c : Counted) : Type 0 where
  pub holds_wrong : c.holds_wrong ≡ list_any has_wrong_count (chain t)
  pub holds_many_not_fixed : c.holds_many_not_fixed ≡ list_any has_many_not_fixed (chain t)
  pub many : c.many ≡ are_many (dimensions t)
  pub elements : c.holds_wrong ≡ false → c.elements ≡ product (dimensions t)
  pub array : c.array ≡ is_array t
  pub not_fixed : c.not_fixed ≡ list_any is_none (dimensions t)

-- this is counted of types, by their numbers
abbrev pub AreCounted : List IdlType → List Counted → Type 0
AreCounted types counts = (n : ℕ) (c : Counted) → slice_get counts n ≡ Some c → IsCounted (or_void (slice_get types n)) c

abbrev pub type_or_void : List IdlType → Option ℕ → IdlType
type_or_void types (Some n) = or_void (slice_get types n)
type_or_void types None = Void

-- the type that a kind points to or is made of as an array, text or pipe, or `void` where there is none
abbrev pub inner_type : List IdlType → Kind → IdlType
inner_type types k = type_or_void types (inner_of k)
