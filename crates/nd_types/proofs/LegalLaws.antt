-- What the facts of a legal interface say of one type, one operation and one basic type.
use Rattle.std.proofs.Common.{arith, ◌≡◌, ℕ, zero, suc, Bool, true, List, [], ◌∷◌, length, take, Some, refl, ap, sym, ◌∙◌}
use Rattle.std.specs.Prelude.{slice_get}
use Rattle.std.specs.List.{list_all}
use Rattle.std.proofs.lemmas.Option.{same_Some}
use Rattle.std.proofs.lemmas.Bool.{eqb-true}
use lib.Pointwise.{pointwise}
use Rattle.nd_types.specs.declared.types.Primitive.{Primitive}
use Rattle.nd_types.specs.declared.types.Primitive.TheVariants.{Boolean, Char, Byte, Small, UnsignedSmall, Short, UnsignedShort, Long, UnsignedLong, Hyper, UnsignedHyper}
use Rattle.nd_types.specs.declared.types.TypeDef.{TypeDef}
use Rattle.nd_types.specs.declared.types.TypeDef.TheVariants as def
use Rattle.nd_types.specs.declared.types.Operation.{Operation}
use Rattle.nd_types.specs.Table.{Table, type_at}
use Rattle.nd_types.specs.Kinds.{prim_number, context_number, basic_types, is_same_basic}
use Rattle.nd_types.specs.Legal.{IsLegal}
use Rattle.nd_lemmas.proofs.Booleans.{first_true as left_true, second_true as right_true}

-- what all elements pass, one passes
pub passes_at : {X : Type 0} (test : X → Bool) (xs : List X) (i : ℕ) (x : X) → list_all test xs ≡ true → slice_get xs i ≡ Some x → test x ≡ true
passes_at test [] i x h at = cc
passes_at test (y ∷ ys) zero x h at = ap test (sym (same_Some y x at)) ∙ left_true (test y) (list_all test ys) h
passes_at test (y ∷ ys) (suc i) x h at = passes_at test ys i x (right_true (test y) (list_all test ys) h) at

-- the i-th of the first n elements
get_of_take : {X : Type 0} (n : ℕ) (xs : List X) (i : ℕ) (x : X) → slice_get (take n xs) i ≡ Some x → slice_get xs i ≡ Some x
get_of_take zero xs i x at = cc
get_of_take (suc n) [] i x at = at
get_of_take (suc n) (y ∷ ys) zero x at = at
get_of_take (suc n) (y ∷ ys) (suc i) x at = get_of_take n ys i x at

-- where two lists agree, the i-th elements do
agree_at : {X : Type 0} (same : X → X → Bool) (xs ys : List X) (i : ℕ) (x : X) → pointwise same xs ys ≡ true → slice_get xs i ≡ Some x
    → (y : X) × (slice_get ys i ≡ Some y) × (same x y ≡ true)
agree_at same [] ys i x h at = cc
agree_at same (u ∷ us) [] i x h at = cc
agree_at same (u ∷ us) (v ∷ vs) zero x h at =
    (v, refl, ap (λ z. same z v) (sym (same_Some u x at)) ∙ left_true (same u v) (pointwise same us vs) h)
agree_at same (u ∷ us) (v ∷ vs) (suc i) x h at = agree_at same us vs i x (right_true (same u v) (pointwise same us vs) h) at

-- a primitive is known by its number
abbrev prims : List Primitive
prims = Boolean ∷ Char ∷ Byte ∷ Small ∷ UnsignedSmall ∷ Short ∷ UnsignedShort ∷ Long ∷ UnsignedLong ∷ Hyper ∷ UnsignedHyper ∷ []

by_number : (p : Primitive) → slice_get prims (prim_number p) ≡ Some p
by_number Boolean = refl
by_number Char = refl
by_number Byte = refl
by_number Small = refl
by_number UnsignedSmall = refl
by_number Short = refl
by_number UnsignedShort = refl
by_number Long = refl
by_number UnsignedLong = refl
by_number Hyper = refl
by_number UnsignedHyper = refl

pub same_prim : (p q : Primitive) → prim_number p ≡ prim_number q → p ≡ q
same_prim p q e = same_Some p q (sym (by_number p) ∙ ap (slice_get prims) e ∙ by_number q)

basic_prim_at : (p : Primitive) → slice_get basic_types (prim_number p) ≡ Some (def.Prim p)
basic_prim_at Boolean = refl
basic_prim_at Char = refl
basic_prim_at Byte = refl
basic_prim_at Small = refl
basic_prim_at UnsignedSmall = refl
basic_prim_at Short = refl
basic_prim_at UnsignedShort = refl
basic_prim_at Long = refl
basic_prim_at UnsignedLong = refl
basic_prim_at Hyper = refl
basic_prim_at UnsignedHyper = refl

no_prim_is_context : (p : Primitive) → prim_number p ≡ context_number → ⊥
no_prim_is_context Boolean e = absurd (omega (arith, e))
no_prim_is_context Char e = absurd (omega (arith, e))
no_prim_is_context Byte e = absurd (omega (arith, e))
no_prim_is_context Small e = absurd (omega (arith, e))
no_prim_is_context UnsignedSmall e = absurd (omega (arith, e))
no_prim_is_context Short e = absurd (omega (arith, e))
no_prim_is_context UnsignedShort e = absurd (omega (arith, e))
no_prim_is_context Long e = absurd (omega (arith, e))
no_prim_is_context UnsignedLong e = absurd (omega (arith, e))
no_prim_is_context Hyper e = absurd (omega (arith, e))
no_prim_is_context UnsignedHyper e = absurd (omega (arith, e))

prim_is : (p : Primitive) (d : TypeDef) → is_same_basic (def.Prim p) d ≡ true → d ≡ def.Prim p
prim_is p (def.Prim q) h = ap def.Prim (sym (same_prim p q (eqb-true (prim_number p) (prim_number q) h)))
prim_is p def.Context h = absurd (no_prim_is_context p (eqb-true (prim_number p) context_number h))
prim_is p _ h = cc

context_is : (d : TypeDef) → is_same_basic def.Context d ≡ true → d ≡ def.Context
context_is def.Context h = refl
context_is (def.Prim q) h = absurd (no_prim_is_context q (sym (eqb-true context_number (prim_number q) h)))
context_is _ h = cc

module _ (types : Table) (operations : List Operation) (legal : IsLegal types operations) where
  -- each primitive is under its number
  pub prim_at : (p : Primitive) → type_at types (prim_number p) ≡ Some (def.Prim p)
  prim_at p =
      let found = agree_at is_same_basic basic_types (take (length basic_types) types) (prim_number p) (def.Prim p) legal.basic (basic_prim_at p) in
      get_of_take (length basic_types) types (prim_number p) found.0 found.1 ∙ ap Some (prim_is p found.0 found.2)

  -- and the context handle under its own
  pub context_at : type_at types context_number ≡ Some def.Context
  context_at =
      let found = agree_at is_same_basic basic_types (take (length basic_types) types) context_number def.Context legal.basic refl in
      get_of_take (length basic_types) types context_number found.0 found.1 ∙ ap Some (context_is found.0 found.2)
