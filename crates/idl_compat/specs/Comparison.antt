-- When two interfaces are alike, and what a comparison of them answers.
use Rattle.std.specs.Prelude.{◌≡◌, ◌⊎◌, ℕ, ◌<◌, ◌≤◌, suc, ℤ, Bool, List, [], ◌∷◌, length, Option, Some, None, slice_get, ⊤}
use Rattle.nd_types.specs.declared.interface.Interface.{Interface}
use Rattle.nd_types.specs.declared.types.TypeId.{TypeId}
use Rattle.nd_types.specs.declared.types.TypeDef.{TypeDef}
use Rattle.nd_types.specs.declared.types.TypeDef.TheVariants as def
use Rattle.nd_types.specs.declared.types.Primitive.{Primitive}
use Rattle.nd_types.specs.declared.types.Class.{Class}
use Rattle.nd_types.specs.declared.types.Field.{Field}
use Rattle.nd_types.specs.declared.types.Arm.{Arm}
use Rattle.nd_types.specs.declared.types.Param.{Param}
use Rattle.nd_types.specs.declared.types.Operation.{Operation}
use Rattle.nd_types.specs.declared.TheConstants.{HANDLE}
use Rattle.nd_types.specs.Table.{Table, type_at}
use Rattle.idl_compat.specs.declared.pairs.TypePair.{TypePair}
use Rattle.idl_compat.specs.declared.compared.Compared.{Compared}
use Rattle.idl_compat.specs.declared.compared.Compared.TheVariants as compared
use Rattle.idl_compat.specs.Needed.{IsNeeded}

-- ## When types, operations and interfaces are alike: what travels for the one may travel for the other

-- Names never matter. `R` relates types of an old table with types of a new one, `t` is an old type's number and `u` a new one's, `m` is a
-- list of pairs, `p` a pair or a parameter, `f` and `g` are fields, `a` and `b` arms, `o` and `q` operations, `n` how many operations.

-- as many items, related one by one
abbrev pub OneByOne : {X Y : Type 0} → (X → Y → Type 0) → List X → List Y → Type 0
OneByOne R [] [] = Unit {0}
OneByOne R (x ∷ xs) (y ∷ ys) = R x y × OneByOne R xs ys
OneByOne R _ _ = ⊥

-- two types that are there and related, or two that are absent
abbrev pub BothOrNone : (ℕ → ℕ → Type 0) → Option TypeId → Option TypeId → Type 0
BothOrNone R None None = Unit {0}
BothOrNone R (Some t) (Some u) = R t.0 u.0
BothOrNone R _ _ = ⊥

-- members: their types are related, and their attributes equal
pub record AlikeFields (R : ℕ → ℕ → Type 0) (f g : Field) : Type 0 where
  pub types : R f.of.0 g.of.0
  pub vars : f.vars ≡ g.vars

-- arms: for one label, both empty or of related types
pub record AlikeArms (R : ℕ → ℕ → Type 0) (a b : Arm) : Type 0 where
  pub label : a.label ≡ b.label
  pub types : BothOrNone R a.of b.of

-- default arms: both there, and then both empty or of related types; or both absent
abbrev pub AlikeDefaults : (ℕ → ℕ → Type 0) → Option Arm → Option Arm → Type 0
AlikeDefaults R None None = Unit {0}
AlikeDefaults R (Some a) (Some b) = BothOrNone R a.of b.of
AlikeDefaults R _ _ = ⊥

-- types: of one form, with related types in it and all else but names equal
pub data AlikeTypes (R : ℕ → ℕ → Type 0) : Option TypeDef → Option TypeDef → Type 0 where
  alike_prims : (p : Primitive) → AlikeTypes R (Some (def.Prim p)) (Some (def.Prim p))
  alike_enums : (values : List ℤ) → AlikeTypes R (Some (def.Enum values)) (Some (def.Enum values))
  alike_structs : (fs gs : List Field) → OneByOne (AlikeFields R) fs gs → AlikeTypes R (Some (def.Struct fs)) (Some (def.Struct gs))
  alike_arrays : (t u : TypeId) (bound : Option ℕ) (varying : Bool) → R t.0 u.0
      → AlikeTypes R (Some (def.Array t bound varying)) (Some (def.Array u bound varying))
  alike_texts : (t u : TypeId) (bound : Option ℕ) → R t.0 u.0 → AlikeTypes R (Some (def.Text t bound)) (Some (def.Text u bound))
  alike_unions : (t u : TypeId) (encapsulated : Bool) (arms arms' : List Arm) (d e : Option Arm) → R t.0 u.0 → OneByOne (AlikeArms R) arms arms'
      → AlikeDefaults R d e → AlikeTypes R (Some (def.Union t encapsulated arms d)) (Some (def.Union u encapsulated arms' e))
  alike_pointers : (class : Class) (t u : TypeId) → R t.0 u.0 → AlikeTypes R (Some (def.Pointer class t)) (Some (def.Pointer class u))
  alike_contexts : AlikeTypes R (Some def.Context) (Some def.Context)
  alike_pipes : (t u : TypeId) → R t.0 u.0 → AlikeTypes R (Some (def.Pipe t)) (Some (def.Pipe u))

-- parameters: of one way, with equal attributes, both of type handle_t or of related types
pub record AlikeParams (R : ℕ → ℕ → Type 0) (p q : Param) : Type 0 where
  pub way : p.way ≡ q.way
  pub vars : p.field.vars ≡ q.field.vars
  pub types : ((p.field.of.0 ≡ HANDLE.0) × (q.field.of.0 ≡ HANDLE.0)) ⊎ R p.field.of.0 q.field.of.0

-- operations: as many parameters, alike one by one, and no results or results of related types
pub record AlikeOperations (R : ℕ → ℕ → Type 0) (o q : Operation) : Type 0 where
  pub params : OneByOne (AlikeParams R) o.params q.params
  pub result : BothOrNone R o.result q.result

-- two operations that are there, and alike
abbrev pub AlikeFound : (ℕ → ℕ → Type 0) → Option Operation → Option Operation → Type 0
AlikeFound R (Some o) (Some q) = AlikeOperations R o q
AlikeFound R _ _ = ⊥

-- a pair is on a list
abbrev pub IsPair : List TypePair → ℕ → ℕ → Type 0
IsPair [] t u = ⊥
IsPair (p ∷ ps) t u = ((t ≡ p.old.0) × (u ≡ p.new.0)) ⊎ IsPair ps t u

-- no type has two partners; the primitives and the context handle, types 0 to 11, have none but themselves
pub record IsOneToOne (m : List TypePair) : Type 0 where
  pub new : (t u v : ℕ) → IsPair m t u → IsPair m t v → u ≡ v
  pub old : (t u v : ℕ) → IsPair m t v → IsPair m u v → t ≡ u
  pub basic : (t u : ℕ) → IsPair m t u → (t < 12) ⊎ (u < 12) → t ≡ u

-- the types of each pair are alike by all pairs
abbrev pub AllAlike : Table → Table → List TypePair → Type 0
AllAlike old new m = (t u : ℕ) → IsPair m t u → AlikeTypes (IsPair m) (type_at old t) (type_at new u)

-- The first n operations of two interfaces are alike by a one-to-one list of pairs of types, and so are the types of each pair.
pub record Alike (old new : Interface) (m : List TypePair) (n : ℕ) : Type 0 where
  pub one_to_one : IsOneToOne m
  pub operations : (i : ℕ) → i < n → AlikeFound (IsPair m) (slice_get old.operations i) (slice_get new.operations i)
  pub types : AllAlike old.types new.types m

-- ## What a comparison answers

-- The conditions exclude one another, so each answer comes exactly where its condition holds. `m` is a list of pairs of types, `k` the
-- number of an operation.

-- both interfaces have a UUID, and it is the same
abbrev pub IsOneUuid : Option ℕ → Option ℕ → Type 0
IsOneUuid (Some a) (Some b) = a ≡ b
IsOneUuid _ _ = ⊥

-- some pairs of types make the first n operations alike
abbrev pub AreAlike : Interface → Interface → ℕ → Type 0
AreAlike old new n = (m : List TypePair) × Alike old new m n

-- the two are one interface in a version that is not older
pub record IsNewer (old new : Interface) : Type 0 where
  pub uuid : IsOneUuid old.uuid new.uuid
  pub major : old.major ≡ new.major
  pub minor : old.minor ≤ new.minor

-- the new one has as many operations
pub record HasAll (old new : Interface) : Type 0 where
  pub newer : IsNewer old new
  pub operations : length old.operations ≤ length new.operations

pub record IsOtherMajor (old new : Interface) (a b : ℕ) : Type 0 where
  pub uuid : IsOneUuid old.uuid new.uuid
  pub is_old : a ≡ old.major
  pub is_new : b ≡ new.major
  pub differ : ¬ (a ≡ b)

pub record IsOlderMinor (old new : Interface) (a b : ℕ) : Type 0 where
  pub uuid : IsOneUuid old.uuid new.uuid
  pub major : old.major ≡ new.major
  pub is_old : a ≡ old.minor
  pub is_new : b ≡ new.minor
  pub less : b < a

pub record IsFewer (old new : Interface) (a b : ℕ) : Type 0 where
  pub newer : IsNewer old new
  pub is_old : a ≡ length old.operations
  pub is_new : b ≡ length new.operations
  pub less : b < a

-- the operation of number k is the first for which no pairs make it and those before it alike
pub record IsFirst (old new : Interface) (k : ℕ) : Type 0 where
  pub is_there : k < length old.operations
  pub differs : ¬ AreAlike old new (suc k)
  pub earlier : (j : ℕ) → j < k → AreAlike old new (suc j)

-- the new interface has as many operations, and this is the first that differs
pub record IsFirstDifferent (old new : Interface) (k : ℕ) : Type 0 where
  pub all : HasAll old new
  pub first : IsFirst old new k

-- these pairs make all old operations alike
pub record IsAllAlike (old new : Interface) (m : List TypePair) : Type 0 where
  pub all : HasAll old new
  pub alike : Alike old new m (length old.operations)

abbrev pub IsCompared : Interface → Interface → Compared → Type 0
IsCompared old new (compared.Yes m) = IsAllAlike old new m
IsCompared old new compared.OtherUuid = ¬ IsOneUuid old.uuid new.uuid
IsCompared old new (compared.OtherMajor a b) = IsOtherMajor old new a b
IsCompared old new (compared.OlderMinor a b) = IsOlderMinor old new a b
IsCompared old new (compared.Fewer a b) = IsFewer old new a b
IsCompared old new (compared.Differs k) = IsFirstDifferent old new k

-- each type that an old operation reaches has a partner
abbrev pub HasPartners : Interface → Compared → Type 0
HasPartners old (compared.Yes m) = (t : ℕ) → IsNeeded old (length old.operations) t → (u : ℕ) × IsPair m t u
HasPartners old _ = ⊤

-- two answers are of one kind, with equal numbers
abbrev pub IsOneAnswer : Compared → Compared → Type 0
IsOneAnswer (compared.Yes m) (compared.Yes n) = ⊤
IsOneAnswer compared.OtherUuid compared.OtherUuid = ⊤
IsOneAnswer (compared.OtherMajor a b) (compared.OtherMajor c d) = (a ≡ c) × (b ≡ d)
IsOneAnswer (compared.OlderMinor a b) (compared.OlderMinor c d) = (a ≡ c) × (b ≡ d)
IsOneAnswer (compared.Fewer a b) (compared.Fewer c d) = (a ≡ c) × (b ≡ d)
IsOneAnswer (compared.Differs j) (compared.Differs k) = j ≡ k
IsOneAnswer _ _ = ⊥
