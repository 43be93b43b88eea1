-- Types of one form are alike by pairs that have the types to which their steps lead.
use Rattle.std.proofs.Common.{◌≡◌, ℕ, suc, List, [], ◌∷◌, Option, Some, None, refl}
use Rattle.std.specs.Prelude.{slice_get}
use Rattle.nd_types.specs.declared.types.TypeId.{TypeId}
use Rattle.nd_types.specs.declared.types.TypeDef.{TypeDef}
use Rattle.nd_types.specs.declared.types.Field.{Field}
use Rattle.nd_types.specs.declared.types.Arm.{Arm}
use Rattle.idl_compat.specs.Comparison.{OneByOne, BothOrNone, AlikeFields, AlikeArms, AlikeDefaults, AlikeTypes, alike_prims, alike_enums, alike_structs, alike_arrays, alike_texts, alike_unions}
use Rattle.idl_compat.specs.Comparison.{alike_pointers, alike_contexts, alike_pipes}
use Rattle.idl_compat_place.specs.declared.steps.Step.{Step}
use Rattle.idl_compat_place.specs.declared.steps.Step.TheVariants as step
use Rattle.idl_compat_place.specs.Differences.{child, member_type, arm_type}

module _ (R S : ℕ → ℕ → Type 0) where
  members_by : (fs gs : List Field) → OneByOne (AlikeFields R) fs gs
      → ((n : ℕ) (t u : TypeId) → member_type (slice_get fs n) ≡ Some t → member_type (slice_get gs n) ≡ Some u → S t.0 u.0) → OneByOne (AlikeFields S) fs gs
  members_by [] [] a f = tt
  members_by [] (y ∷ gs) a f = absurd a
  members_by (x ∷ fs) [] a f = absurd a
  members_by (x ∷ fs) (y ∷ gs) a f = (record { types = f 0 x.of y.of refl refl; vars = a.0.vars }, members_by fs gs a.1 (λ n. f (suc n)))

  both_by : (o p : Option TypeId) → BothOrNone R o p → ((t u : TypeId) → o ≡ Some t → p ≡ Some u → S t.0 u.0) → BothOrNone S o p
  both_by None None a f = tt
  both_by None (Some u) a f = absurd a
  both_by (Some t) None a f = absurd a
  both_by (Some t) (Some u) a f = f t u refl refl

  arms_by : (xs ys : List Arm) → OneByOne (AlikeArms R) xs ys
      → ((n : ℕ) (t u : TypeId) → arm_type (slice_get xs n) ≡ Some t → arm_type (slice_get ys n) ≡ Some u → S t.0 u.0) → OneByOne (AlikeArms S) xs ys
  arms_by [] [] a f = tt
  arms_by [] (y ∷ ys) a f = absurd a
  arms_by (x ∷ xs) [] a f = absurd a
  arms_by (x ∷ xs) (y ∷ ys) a f = (record { label = a.0.label; types = both_by x.of y.of a.0.types (f 0) }, arms_by xs ys a.1 (λ n. f (suc n)))

  default_by : (d e : Option Arm) → AlikeDefaults R d e → ((t u : TypeId) → arm_type d ≡ Some t → arm_type e ≡ Some u → S t.0 u.0) → AlikeDefaults S d e
  default_by None None a f = tt
  default_by None (Some y) a f = absurd a
  default_by (Some x) None a f = absurd a
  default_by (Some x) (Some y) a f = both_by x.of y.of a f

  pub alike_by : (d e : TypeDef) → AlikeTypes R (Some d) (Some e) → ((n : Step) (t u : TypeId) → child d n ≡ Some t → child e n ≡ Some u → S t.0 u.0)
      → AlikeTypes S (Some d) (Some e)
  alike_by _ _ (alike_prims p) f = alike_prims p
  alike_by _ _ (alike_enums vs) f = alike_enums vs
  alike_by _ _ (alike_structs fs gs a) f = alike_structs fs gs (members_by fs gs a (λ n. f (step.Nth n)))
  alike_by _ _ (alike_arrays t u b v a) f = alike_arrays t u b v (f (step.Nth 0) t u refl refl)
  alike_by _ _ (alike_texts t u b a) f = alike_texts t u b (f (step.Nth 0) t u refl refl)
  alike_by _ _ (alike_unions t u n xs ys d e a b c) f =
      alike_unions t u n xs ys d e (f step.Tag t u refl refl) (arms_by xs ys b (λ k. f (step.Nth k))) (default_by d e c (f step.Default))
  alike_by _ _ (alike_pointers k t u a) f = alike_pointers k t u (f (step.Nth 0) t u refl refl)
  alike_by _ _ alike_contexts f = alike_contexts
  alike_by _ _ (alike_pipes t u a) f = alike_pipes t u (f (step.Nth 0) t u refl refl)
