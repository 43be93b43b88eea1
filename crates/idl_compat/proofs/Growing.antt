-- What is alike by some pairs is alike by more; what a list of pairs makes alike it makes alike of fewer operations.
use Rattle.std.proofs.Common.{arith, ◌≡◌, ℕ, ◌+◌, ◌<◌, ◌≤◌, suc, List, [], ◌∷◌, ◌++◌, Option, Some, None, refl, ap, sym, ◌∙◌, subst, length, inl, inr, ◌⊎◌}
use Rattle.std.specs.Prelude.{slice_get}
use Rattle.std.proofs.lemmas.Option.{same_Some}
use Rattle.nd_types.specs.declared.interface.Interface.{Interface}
use Rattle.nd_types.specs.declared.types.TypeId.{TypeId}
use Rattle.nd_types.specs.declared.types.TypeDef.{TypeDef}
use Rattle.nd_types.specs.declared.types.Arm.{Arm}
use Rattle.nd_types.specs.declared.types.Field.{Field}
use Rattle.nd_types.specs.declared.types.Param.{Param}
use Rattle.nd_types.specs.declared.types.Operation.{Operation}
use Rattle.nd_types.specs.declared.TheConstants.{HANDLE}
use Rattle.nd_types.specs.Table.{type_at}
use Rattle.nd_types.specs.Layout.{arm_types, default_type}
use Rattle.nd_types.specs.Legal.{named_types}
use Rattle.nd_value.specs.Setting.{Among}
use Rattle.idl_compat.specs.declared.pairs.TypePair.{TypePair}
use Rattle.idl_compat.specs.declared.placing.Pairing.{Pairing}
use Rattle.idl_compat.specs.Comparison.{OneByOne, BothOrNone, IsPair, IsOneToOne, Alike, AlikeFound, AlikeFields, AlikeArms, AlikeDefaults, AlikeTypes, alike_prims, alike_enums, alike_structs}
use Rattle.idl_compat.specs.Comparison.{alike_arrays, alike_texts, alike_unions, alike_pointers, alike_contexts, alike_pipes, AlikeParams, AlikeOperations}
use Rattle.idl_compat.specs.Asking.{Includes}
use Rattle.idl_compat.specs.Placing.{IsPaired}
use Rattle.idl_compat.specs.Needed.{IsNeeded, by_param, by_result, by_part}
use Rattle.idl_compat.proofs.Carrying.{both_there}
use Rattle.idl_compat.proofs.Tied.{one_append, fields_typed, arms_typed, default_typed}

module _ (R S : ℕ → ℕ → Type 0) (f : (t u : ℕ) → R t u → S t u) where
  one_grows : {X Y : Type 0} (P Q : X → Y → Type 0) → ((x : X) (y : Y) → P x y → Q x y) → (xs : List X) (ys : List Y) → OneByOne P xs ys → OneByOne Q xs ys
  one_grows P Q k [] [] a = tt
  one_grows P Q k [] (y ∷ ys) a = absurd a
  one_grows P Q k (x ∷ xs) [] a = absurd a
  one_grows P Q k (x ∷ xs) (y ∷ ys) a = (k x y a.0, one_grows P Q k xs ys a.1)

  both_grow : (o p : Option TypeId) → BothOrNone R o p → BothOrNone S o p
  both_grow None None a = tt
  both_grow None (Some u) a = absurd a
  both_grow (Some t) None a = absurd a
  both_grow (Some t) (Some u) a = f t.0 u.0 a

  defaults_grow : (d e : Option Arm) → AlikeDefaults R d e → AlikeDefaults S d e
  defaults_grow None None a = tt
  defaults_grow None (Some u) a = absurd a
  defaults_grow (Some t) None a = absurd a
  defaults_grow (Some t) (Some u) a = both_grow t.of u.of a

  pub types_grow : {d e : Option TypeDef} → AlikeTypes R d e → AlikeTypes S d e
  types_grow (alike_prims p) = alike_prims p
  types_grow (alike_enums vs) = alike_enums vs
  types_grow (alike_structs fs gs a) = alike_structs fs gs (one_grows (AlikeFields R) (AlikeFields S) (λ x y k. record { types = f x.of.0 y.of.0 k.types; vars = k.vars }) fs gs a)
  types_grow (alike_arrays t u b v a) = alike_arrays t u b v (f t.0 u.0 a)
  types_grow (alike_texts t u b a) = alike_texts t u b (f t.0 u.0 a)
  types_grow (alike_unions t u n xs ys d e a b c) =
      alike_unions t u n xs ys d e (f t.0 u.0 a) (one_grows (AlikeArms R) (AlikeArms S) (λ x y k. record { label = k.label; types = both_grow x.of y.of k.types }) xs ys b) (defaults_grow d e c)
  types_grow (alike_pointers k t u a) = alike_pointers k t u (f t.0 u.0 a)
  types_grow alike_contexts = alike_contexts
  types_grow (alike_pipes t u a) = alike_pipes t u (f t.0 u.0 a)

  either_grows : (p q : Param) → ((p.field.of.0 ≡ HANDLE.0) × (q.field.of.0 ≡ HANDLE.0)) ⊎ R p.field.of.0 q.field.of.0
      → ((p.field.of.0 ≡ HANDLE.0) × (q.field.of.0 ≡ HANDLE.0)) ⊎ S p.field.of.0 q.field.of.0
  either_grows p q (inl h) = inl h
  either_grows p q (inr r) = inr (f p.field.of.0 q.field.of.0 r)

  pub operations_grow : (o q : Operation) → AlikeOperations R o q → AlikeOperations S o q
  operations_grow o q a =
      record {
        params = one_grows (AlikeParams R) (AlikeParams S) (λ x y k. record { way = k.way; vars = k.vars; types = either_grows x y k.types }) o.params q.params a.params;
        result = both_grow o.result q.result a.result;
      }

pub alike_fewer : (old new : Interface) (m : List TypePair) (k n : ℕ) → k ≤ n → Alike old new m n → Alike old new m k
alike_fewer old new m k n few a = record { one_to_one = a.one_to_one; operations = λ i l. a.operations i (omega (arith, l, few)); types = a.types }

pub one_to_one : (s : Pairing) → IsPaired s → IsOneToOne s.pairs
one_to_one s k =
    record {
      new = λ t u v p q. same_Some u v (sym (k.to_new t u p) ∙ k.to_new t v q);
      old = λ t u v p q. same_Some t u (sym (k.to_old t v p) ∙ k.to_old u v q);
      basic = k.basic;
    }

-- ## Each type that an operation needs has a partner

pub named_alike : (R : ℕ → ℕ → Type 0) (x y : TypeDef) → AlikeTypes R (Some x) (Some y) → OneByOne R (named_types x) (named_types y)
named_alike R _ _ (alike_prims p) = tt
named_alike R _ _ (alike_enums vs) = tt
named_alike R _ _ (alike_structs fs gs a) = one_append R _ _ [] [] (one_append R _ _ [] [] (fields_typed R fs gs a) tt) tt
named_alike R _ _ (alike_arrays t u b v a) = (a, tt)
named_alike R _ _ (alike_texts t u b a) = (a, tt)
named_alike R _ _ (alike_unions t u n xs ys d e a b c) =
    one_append R ((arm_types xs ++ default_type d) ++ t.0 ∷ []) ((arm_types ys ++ default_type e) ++ u.0 ∷ []) [] []
    (one_append R (arm_types xs ++ default_type d) (arm_types ys ++ default_type e) (t.0 ∷ []) (u.0 ∷ [])
    (one_append R (arm_types xs) (arm_types ys) (default_type d) (default_type e) (arms_typed R xs ys b) (default_typed R d e c)) (a, tt)) tt
named_alike R _ _ (alike_pointers k t u a) = (a, tt)
named_alike R _ _ alike_contexts = tt
named_alike R _ _ (alike_pipes t u a) = (a, tt)

among_alike : {X Y : Type 0} (P : X → Y → Type 0) (xs : List X) (ys : List Y) → OneByOne P xs ys → (x : X) → Among xs x → (y : Y) × P x y
among_alike P [] ys a x m = absurd m
among_alike P (z ∷ xs) [] a x m = absurd a
among_alike P (z ∷ xs) (y ∷ ys) a x (inl e) = (y, subst (λ v. P v y) (sym e) a.0)
among_alike P (z ∷ xs) (y ∷ ys) a x (inr m) = among_alike P xs ys a.1 x m

found_as : (R : ℕ → ℕ → Type 0) (x y : Option Operation) (o : Operation) → AlikeFound R x y → x ≡ Some o → (q : Operation) × AlikeOperations R o q
found_as R None y o a e = absurd a
found_as R (Some x) None o a e = absurd a
found_as R (Some x) (Some y) o a e = (y, subst (λ v. AlikeOperations R v y) (same_Some x o e) a)

of_handle : (R : ℕ → ℕ → Type 0) (t u : ℕ) → ((t ≡ HANDLE.0) × (u ≡ HANDLE.0)) ⊎ R t u → (t ≡ HANDLE.0 → ⊥) → R t u
of_handle R t u (inl h) n = absurd (n h.0)
of_handle R t u (inr r) n = r

result_as : (R : ℕ → ℕ → Type 0) (x y : Option TypeId) (t : TypeId) → BothOrNone R x y → x ≡ Some t → (u : ℕ) × R t.0 u
result_as R None y t a e = cc
result_as R (Some x) None t a e = absurd a
result_as R (Some x) (Some y) t a e = (y.0, subst (λ v. R v.0 y.0) (same_Some x t e) a)

types_as : (R : ℕ → ℕ → Type 0) (x y : Option TypeDef) (d : TypeDef) → AlikeTypes R x y → x ≡ Some d → (e : TypeDef) × AlikeTypes R (Some d) (Some e)
types_as R x y d a e =
    let (p, q) = both_there R a in
    (q.0, subst (λ v. AlikeTypes R (Some d) v) q.1 (subst (λ v. AlikeTypes R v y) e a))

pub needed_pair : (old new : Interface) (m : List TypePair) (n : ℕ) → Alike old new m n → {t : ℕ} → IsNeeded old n t → (u : ℕ) × IsPair m t u
needed_pair old new m n a (by_param i o p l at among other) =
    let (q, k) = found_as (IsPair m) (slice_get old.operations i) (slice_get new.operations i) o (a.operations i l) at in
    let (p', h) = among_alike (AlikeParams (IsPair m)) o.params q.params k.params p among in
    (p'.field.of.0, of_handle (IsPair m) p.field.of.0 p'.field.of.0 h.types other)
needed_pair old new m n a (by_result i o t l at is) =
    let (q, k) = found_as (IsPair m) (slice_get old.operations i) (slice_get new.operations i) o (a.operations i l) at in
    result_as (IsPair m) o.result q.result t k.result is
needed_pair old new m n a (by_part t d v need at among) =
    let (u, p) = needed_pair old new m n a need in
    let (e, k) = types_as (IsPair m) (type_at old.types t) (type_at new.types u) d (a.types t u p) at in
    among_alike (IsPair m) (named_types d) (named_types e) (named_alike (IsPair m) d e k) v among
