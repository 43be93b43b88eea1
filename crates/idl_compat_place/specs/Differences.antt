-- The first place at which two interfaces differ.
use Rattle.std.specs.Prelude.{◌≡◌, ◌⊎◌, ℕ, ◌<◌, zero, suc, List, [], ◌∷◌, length, Option, Some, None, slice_get, ⊤}
use Rattle.nd_types.specs.declared.interface.Interface.{Interface}
use Rattle.nd_types.specs.declared.types.TypeId.{TypeId}
use Rattle.nd_types.specs.declared.types.Param.{Param}
use Rattle.nd_types.specs.declared.types.Operation.{Operation}
use Rattle.nd_types.specs.declared.TheConstants.{HANDLE}
use Rattle.nd_types.specs.declared.types.TypeDef.{TypeDef}
use Rattle.nd_types.specs.declared.types.TypeDef.TheVariants.{Struct, Array, Text, Union, Pointer, Pipe}
use Rattle.nd_types.specs.declared.types.Field.{Field}
use Rattle.nd_types.specs.declared.types.Arm.{Arm}
use Rattle.nd_types.specs.Table.{Table, type_at}
use Rattle.idl_compat.specs.declared.pairs.TypePair.{TypePair}
use Rattle.idl_compat.specs.Comparison.{Alike, AlikeParams, BothOrNone, IsPair, AlikeTypes, IsOneToOne}
use Rattle.idl_compat_place.specs.declared.places.Place.{Place}
use Rattle.idl_compat_place.specs.declared.steps.Step.{Step}
use Rattle.idl_compat_place.specs.declared.steps.Step.TheVariants as step
use Rattle.idl_compat_place.specs.declared.places.Difference.{Difference}
use Rattle.idl_compat_place.specs.declared.places.Difference.TheVariants.{Counts, Parts, Types, Clash}

-- ## The parts of an operation: its parameters by their numbers, and after them its result

-- `o` and `q` are operations, `p` and `q` parameters, `r` and `s` results, `n` is the number of a part, `k` of an operation, `m` a list of pairs.

-- the type of a parameter, or of the result where there is no parameter
abbrev pub type_or_result : Option TypeId → Option Param → Option TypeId
type_or_result r (Some p) = Some p.field.of
type_or_result r None = r

abbrev pub part_type : Option Operation → ℕ → Option TypeId
part_type None n = None
part_type (Some o) n = type_or_result o.result (slice_get o.params n)

-- the type of a part of an operation of an interface
abbrev pub part_at : Interface → ℕ → ℕ → Option TypeId
part_at i k n = part_type (slice_get i.operations k) n

-- two parameters that are alike, or two results where there are no parameters
abbrev pub AlikeOrResults : (ℕ → ℕ → Type 0) → Option TypeId → Option TypeId → Option Param → Option Param → Type 0
AlikeOrResults R r s (Some p) (Some q) = AlikeParams R p q
AlikeOrResults R r s None None = BothOrNone R r s
AlikeOrResults R r s _ _ = ⊥

abbrev pub AlikeParts : (ℕ → ℕ → Type 0) → Option Operation → Option Operation → ℕ → Type 0
AlikeParts R (Some o) (Some q) n = AlikeOrResults R o.result q.result (slice_get o.params n) (slice_get q.params n)
AlikeParts R _ _ n = ⊥

-- the parts of this number of the k-th operations are alike
abbrev pub AlikePartsAt : (ℕ → ℕ → Type 0) → Interface → Interface → ℕ → ℕ → Type 0
AlikePartsAt R old new k n = AlikeParts R (slice_get old.operations k) (slice_get new.operations k) n

-- two parameters of type handle_t, which is no type of a table
abbrev pub AreHandleParams : Option Param → Option Param → Type 0
AreHandleParams (Some p) (Some q) = (p.field.of.0 ≡ HANDLE.0) × (q.field.of.0 ≡ HANDLE.0)
AreHandleParams _ _ = ⊥

abbrev pub AreHandles : Option Operation → Option Operation → ℕ → Type 0
AreHandles (Some o) (Some q) n = AreHandleParams (slice_get o.params n) (slice_get q.params n)
AreHandles _ _ n = ⊥

-- some pairs of types make the first k operations alike, and the first n parts of the next one
abbrev pub AreAlikeUpTo : Interface → Interface → ℕ → ℕ → Type 0
AreAlikeUpTo old new k n = (m : List TypePair) × Alike old new m k × ((i : ℕ) → i < n → AlikePartsAt (IsPair m) old new k i)

-- as many parameters
abbrev pub AreAsMany : Option Operation → Option Operation → Type 0
AreAsMany (Some o) (Some q) = length o.params ≡ length q.params
AreAsMany _ _ = ⊥

-- ## Places: a part of an operation, and steps from its type down to one that it names

-- `d` is a type, `t` a type's number, `n` a step, `l` a place, `p` a pair of types.

abbrev pub member_type : Option Field → Option TypeId
member_type (Some f) = Some f.of
member_type None = None

abbrev pub arm_type : Option Arm → Option TypeId
arm_type (Some a) = a.of
arm_type None = None

-- a type as the only part, and none by other numbers
abbrev pub only : TypeId → ℕ → Option TypeId
only t zero = Some t
only t (suc n) = None

-- the n-th part: a member, an arm of a label; the element of an array, a string or a pipe and the pointee of a pointer are part 0
abbrev pub nth_child : TypeDef → ℕ → Option TypeId
nth_child (Struct members) n = member_type (slice_get members n)
nth_child (Array elem bound varying) n = only elem n
nth_child (Text elem bound) n = only elem n
nth_child (Pointer class to) n = only to n
nth_child (Pipe elem) n = only elem n
nth_child (Union tag encapsulated arms default) n = arm_type (slice_get arms n)
nth_child _ n = None

abbrev pub default_child : TypeDef → Option TypeId
default_child (Union tag encapsulated arms default) = arm_type default
default_child _ = None

abbrev pub tag_child : TypeDef → Option TypeId
tag_child (Union tag encapsulated arms default) = Some tag
tag_child _ = None

-- the type to which a step leads
abbrev pub child : TypeDef → Step → Option TypeId
child d (step.Nth n) = nth_child d n
child d step.Default = default_child d
child d step.Tag = tag_child d

abbrev pub child_of : Option TypeDef → Step → Option TypeId
child_of None n = None
child_of (Some d) n = child d n

abbrev pub stepped : Table → Option TypeId → Step → Option TypeId
stepped types None n = None
stepped types (Some t) n = child_of (type_at types t.0) n

-- the type to which steps lead, the last of which is the first of the list
abbrev pub led : Table → Option TypeId → List Step → Option TypeId
led types t [] = t
led types t (n ∷ steps) = stepped types (led types t steps) n

-- A place leads to these two types, one in each interface.
pub record IsPlace (old new : Interface) (l : Place) (p : TypePair) : Type 0 where
  pub old_led : led old.types (part_at old l.op l.part) l.steps ≡ Some p.old
  pub new_led : led new.types (part_at new l.op l.part) l.steps ≡ Some p.new
  pub no_handles : AreHandles (slice_get old.operations l.op) (slice_get new.operations l.op) l.part → ⊥

-- ## The order in which places are visited

-- part `i` of operation `j` is before part `n` of operation `k`
abbrev pub IsPartBefore : ℕ → ℕ → ℕ → ℕ → Type 0
IsPartBefore j i k n = (j < k) ⊎ ((j ≡ k) × (i < n))

-- From one type the parts are stepped to first, by their numbers, then a default arm, and then a tag.
abbrev pub turn : Step → ℕ
turn (step.Nth n) = 0
turn step.Default = 1
turn step.Tag = 2

abbrev pub number : Step → ℕ
number (step.Nth n) = n
number step.Default = 0
number step.Tag = 0

abbrev pub IsStepBefore : Step → Step → Type 0
IsStepBefore a b = (turn a < turn b) ⊎ ((turn a ≡ turn b) × (number a < number b))

-- Steps from a type are before others from it, if they are fewer, or as many and the first that differs is before the other's. The last step is the
-- first of each list.
abbrev pub AreStepsBefore : List Step → List Step → Type 0
AreStepsBefore [] [] = ⊥
AreStepsBefore [] (b ∷ others) = ⊤
AreStepsBefore (a ∷ steps) [] = ⊥
AreStepsBefore (a ∷ steps) (b ∷ others) = AreStepsBefore steps others ⊎ ((steps ≡ others) × IsStepBefore a b)

-- a place in an earlier part, or in the same one after steps that are before the other's
abbrev pub IsVisitedBefore : Place → Place → Type 0
IsVisitedBefore e l = IsPartBefore e.op e.part l.op l.part ⊎ ((e.op ≡ l.op) × (e.part ≡ l.part) × AreStepsBefore e.steps l.steps)

-- ## The first difference

-- `k` is the number of an operation, `n` of a part, `l` a place, `p` a pair of types, `e` an earlier place and `r` the types there, `m` a list of
-- pairs.

-- No one-to-one list of pairs that has this one makes its types alike: they differ, whatever the types that they name are paired with.
abbrev pub AreUnlike : Interface → Interface → TypePair → Type 0
AreUnlike old new p =
    (m : List TypePair) → IsOneToOne m → IsPair m p.old.0 p.new.0 → AlikeTypes (IsPair m) (type_at old.types p.old.0) (type_at new.types p.new.0) → ⊥

-- two pairs share one of their types and not the other, so no one-to-one list has both
abbrev pub AreClashing : TypePair → TypePair → Type 0
AreClashing p r = ((r.old.0 ≡ p.old.0) × (r.new.0 ≡ p.new.0 → ⊥)) ⊎ ((r.new.0 ≡ p.new.0) × (r.old.0 ≡ p.old.0 → ⊥))

-- The types at a place have to be partners, and so have those at a place that is visited before it; but no one-to-one list of pairs has both pairs.
pub record IsClash (old new : Interface) (l : Place) (p : TypePair) (e : Place) (r : TypePair) : Type 0 where
  pub place : IsPlace old new l p
  pub earlier : IsPlace old new e r
  pub is_earlier : IsVisitedBefore e l
  pub clashing : AreClashing p r

-- the types at a place differ by themselves
pub record AreOther (old new : Interface) (l : Place) (p : TypePair) : Type 0 where
  pub place : IsPlace old new l p
  pub unlike : AreUnlike old new p

-- What differs: the numbers of parameters; two parts, whatever types are paired; the types at a place; or the pairs of types of two places clash.
abbrev pub IsDifference : Interface → Interface → Difference → Type 0
IsDifference old new (Counts k) = AreAsMany (slice_get old.operations k) (slice_get new.operations k) → ⊥
IsDifference old new (Parts k n) = (m : List TypePair) → AlikePartsAt (IsPair m) old new k n → ⊥
IsDifference old new (Types l p) = AreOther old new l p
IsDifference old new (Clash l p e r) = IsClash old new l p e r

abbrev pub op_of : Difference → ℕ
op_of (Counts k) = k
op_of (Parts k n) = k
op_of (Types l p) = l.op
op_of (Clash l p e r) = l.op

abbrev pub part_of : Difference → ℕ
part_of (Counts k) = 0
part_of (Parts k n) = n
part_of (Types l p) = l.part
part_of (Clash l p e r) = l.part

-- The first part that differs, with a place at which it does: all operations before it are alike, and all parts before it.
pub record IsFirstDifference (old new : Interface) (d : Difference) : Type 0 where
  pub is_there : op_of d < length old.operations
  pub earlier : AreAlikeUpTo old new (op_of d) (part_of d)
  pub differs : IsDifference old new d

-- the first difference, or all old operations are alike
abbrev pub IsFound : Interface → Interface → Option Difference → Type 0
IsFound old new (Some d) = IsFirstDifference old new d
IsFound old new None = (m : List TypePair) × Alike old new m (length old.operations)
