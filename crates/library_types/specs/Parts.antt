-- Members, enumerators and arms by their places, in numbers that cross to C.
-- `d` is a type, `k` a place, `a` an arm, `u` the low 64 bits of a tag.
use Rattle.std.specs.Prelude.{◌≡◌, ◌<◌, ℕ, Bool, true, false, ◌==◌, List, Option, Some, None, length, option_map, is_some, ⊤, ◌⊎◌}
use Rattle.std.specs.Prelude.{if◌then◌else◌, slice_get}
use Rattle.nd_types.specs.declared.types.Arm.{Arm}
use Rattle.nd_types.specs.declared.types.Field.{Field}
use Rattle.nd_types.specs.declared.types.TypeDef.{TypeDef}
use Rattle.nd_types.specs.declared.types.TypeDef.TheVariants.{Enum, Struct, Union}
use Rattle.nd_types.specs.declared.types.TypeId.{TypeId}
use Rattle.library_types.specs.declared.parts.ArmDescription.{ArmDescription}
use Rattle.library_types.specs.declared.parts.Selection.{Selection}
use Rattle.library_types.specs.declared.parts.Selection.TheVariants.{Selected, NoArm, NoUnion}
use Rattle.library_types.specs.Described.{bit, all_arms}
use Rattle.library_types.specs.Low.{low}

-- the member of a struct at a place
abbrev pub member_of : Option TypeDef → ℕ → Option Field
member_of (Some (Struct members)) k = slice_get members k
member_of _ k = None

-- the low 64 bits of the enumerator at a place
abbrev pub enumerator_of : Option TypeDef → ℕ → Option ℕ
enumerator_of (Some (Enum values)) k = option_map low (slice_get values k)
enumerator_of _ k = None

-- ## Arms

-- the arm of a union at a place; the default is the last
abbrev pub arm_of : Option TypeDef → ℕ → Option Arm
arm_of (Some (Union tag encapsulated arms default)) k = slice_get (all_arms arms default) k
arm_of _ k = None

-- whether the arm of a union at a place is the default
abbrev pub is_default_of : Option TypeDef → ℕ → Bool
is_default_of (Some (Union tag encapsulated arms default)) k = k == length arms
is_default_of _ k = false

-- a type's number; 0 for none
abbrev pub type_number : Option TypeId → ℕ
type_number (Some t) = t.0
type_number None = 0

-- a label's low 64 bits; 0 for the default
abbrev pub label_number : Bool → Arm → ℕ
label_number is_default a = if is_default then 0 else low a.label

abbrev pub arm_described : Bool → Arm → ArmDescription
arm_described is_default a = record {
  label = label_number is_default a;
  is_default = bit is_default;
  has_name = bit (is_some a.name);
  has_type = bit (is_some a.of);
  of = type_number a.of;
}

-- this is the place of the first arm with a label of these low 64 bits
pub record IsLabelledAt (arms : List Arm) (u k : ℕ) : Type 0 where
  pub arm : Arm
  pub there : slice_get arms k ≡ Some arm
  pub label_is : low arm.label ≡ u
  pub first : (i : ℕ) (a : Arm) → i < k → slice_get arms i ≡ Some a → low a.label ≡ u → ⊥

-- no arm has such a label
abbrev pub HasNoLabel : List Arm → ℕ → Type 0
HasNoLabel arms u = (i : ℕ) (a : Arm) → slice_get arms i ≡ Some a → low a.label ≡ u → ⊥

-- this is the place of the arm that a tag selects: that with the label, or else the default
abbrev pub IsSelectedAt : List Arm → Option Arm → ℕ → ℕ → Type 0
IsSelectedAt arms default u k = IsLabelledAt arms u k ⊎ (HasNoLabel arms u × (is_some default ≡ true) × (k ≡ length arms))

-- which arm of a type a tag selects
abbrev pub IsSelection : Option TypeDef → ℕ → Selection → Type 0
IsSelection (Some (Union tag encapsulated arms default)) u (Selected k) = IsSelectedAt arms default u k
IsSelection (Some (Union tag encapsulated arms default)) u NoArm = HasNoLabel arms u × (default ≡ None)
IsSelection (Some (Union tag encapsulated arms default)) u NoUnion = ⊥
IsSelection _ u NoUnion = ⊤
IsSelection _ u _ = ⊥
