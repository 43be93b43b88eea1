-- Types, roots, members and arms, as programs in C see them.
-- `i` is an interface, `operation`, `side` and `of` are numbers, `k` is a place.
use Rattle.std.specs.Prelude.{◌≡◌, ℕ, List, [], Option, Some, None, slice_get, IsSomeAnd}
use Rattle.nd_types.specs.declared.interface.Interface.{Interface}
use Rattle.nd_types.specs.declared.types.Arm.{Arm}
use Rattle.nd_types.specs.declared.types.Field.{Field}
use Rattle.nd_types.specs.declared.types.Operation.{Operation}
use Rattle.nd_types.specs.declared.types.TypeDef.{TypeDef}
use Rattle.nd_types.specs.declared.types.TypeDef.TheVariants.{Struct}
use Rattle.nd_types.specs.Table.{type_at}
use Rattle.nd_types.specs.Roots.{NamedRoot, named_roots}
use Rattle.library_types.specs.Finding.{IsRootNamed, HasNoRoot, IsMemberNamed, HasNoMember}
use Rattle.library_answers.specs.Answers.{OfSide}

-- the root of that side has that name, and that type
abbrev pub IsRoot : Interface → ℕ → ℕ → List ℕ → ℕ → ℕ → Type 0
IsRoot i operation side name root of =
    OfSide i operation side (λ o s. IsRootNamed (named_roots i.types s o) name (record { at = root; of = record { 0 = of } }))

-- no root of that side has that name
abbrev pub HasNoRootNamed : Interface → ℕ → ℕ → List ℕ → Type 0
HasNoRootNamed i operation side name = OfSide i operation side (λ o s. HasNoRoot (named_roots i.types s o) name)

-- there is a root of that place, and this holds of its operation and of it
abbrev pub OfRoot : Interface → ℕ → ℕ → ℕ → (Operation → NamedRoot → Type 0) → Type 0
OfRoot i operation side k P = OfSide i operation side (λ o s. IsSomeAnd (slice_get (named_roots i.types s o) k) (P o))

-- there is no root of that place
abbrev pub HasNoRootAt : Interface → ℕ → ℕ → ℕ → Type 0
HasNoRootAt i operation side k = OfSide i operation side (λ o s. slice_get (named_roots i.types s o) k ≡ None)

-- the members of a struct
abbrev pub members_of : Option TypeDef → Option (List Field)
members_of (Some (Struct members)) = Some members
members_of _ = None

-- the member of that struct has that name, and that type
abbrev pub IsMember : Interface → ℕ → List ℕ → ℕ → ℕ → Type 0
IsMember i of name member member_of =
    IsSomeAnd (members_of (type_at i.types of)) (λ fs. IsMemberNamed fs name (record { at = member; of = record { 0 = member_of } }))

-- no member of that struct has that name
abbrev pub HasNoMemberNamed : Interface → ℕ → List ℕ → Type 0
HasNoMemberNamed i of name = IsSomeAnd (members_of (type_at i.types of)) (λ fs. HasNoMember fs name)

-- a name; no octets for none
abbrev pub name_or_none : Option (List ℕ) → List ℕ
name_or_none (Some name) = name
name_or_none None = []

-- the name of an arm
abbrev pub arm_name : Arm → List ℕ
arm_name a = name_or_none a.name
