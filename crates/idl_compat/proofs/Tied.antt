-- Two tables whose types are tied: what a relation of types keeps to, and the same turned round.
use Rattle.std.proofs.Common.{◌≡◌, ℕ, ◌+◌, zero, suc, Bool, true, false, List, [], ◌∷◌, ◌++◌, Option, Some, None, refl, ap, ap₂, sym, ◌∙◌, subst, inl, inr, ◌⊎◌, map, max, eqb}
use Rattle.nd_types.specs.declared.types.TypeId.{TypeId}
use Rattle.nd_types.specs.declared.types.TypeDef.{TypeDef}
use Rattle.nd_types.specs.declared.types.TypeDef.TheVariants as def
use Rattle.nd_types.specs.declared.types.Field.{Field}
use Rattle.nd_types.specs.declared.types.Arm.{Arm}
use Rattle.nd_types.specs.declared.types.Param.{Param}
use Rattle.nd_types.specs.declared.types.Operation.{Operation}
use Rattle.nd_types.specs.declared.TheConstants.{HANDLE, NESTING_LIMIT}
use Rattle.nd_types.specs.Table.{Table, type_at, width, carrier}
use Rattle.nd_types.specs.Layout.{largest, arm_type, arm_types, default_type, type_list, at_least_4, tag_width, align_by, align_within, align_of, last_hoists, hoists_by, hoists_within, hoists}
use Rattle.idl_compat.specs.Comparison.{OneByOne, BothOrNone, AlikeFields, AlikeArms, AlikeDefaults, AlikeTypes, alike_prims, alike_enums, alike_structs, alike_arrays, alike_texts, alike_unions}
use Rattle.idl_compat.specs.Comparison.{alike_pointers, alike_contexts, alike_pipes, AlikeParams, AlikeOperations}

-- related types are alike, none has two partners, and none is HANDLE
pub record IsTied (R : ℕ → ℕ → Type 0) (old new : Table) : Type 0 where
  pub alike : (t u : ℕ) → R t u → AlikeTypes R (type_at old t) (type_at new u)
  pub one_new : (t u v : ℕ) → R t u → R t v → u ≡ v
  pub one_old : (t u v : ℕ) → R t v → R u v → t ≡ u
  pub old_known : (t u : ℕ) → R t u → eqb t HANDLE.0 ≡ false
  pub new_known : (t u : ℕ) → R t u → eqb u HANDLE.0 ≡ false

-- ## The other way round

abbrev pub turned : (ℕ → ℕ → Type 0) → ℕ → ℕ → Type 0
turned R u t = R t u

pub one_turned : {X Y : Type 0} (P : X → Y → Type 0) (Q : Y → X → Type 0) → ((x : X) (y : Y) → P x y → Q y x) → (xs : List X) (ys : List Y)
    → OneByOne P xs ys → OneByOne Q ys xs
one_turned P Q f [] [] a = tt
one_turned P Q f [] (y ∷ ys) a = absurd a
one_turned P Q f (x ∷ xs) [] a = absurd a
one_turned P Q f (x ∷ xs) (y ∷ ys) a = (f x y a.0, one_turned P Q f xs ys a.1)

both_turned : (R : ℕ → ℕ → Type 0) (o p : Option TypeId) → BothOrNone R o p → BothOrNone (turned R) p o
both_turned R None None a = tt
both_turned R None (Some u) a = absurd a
both_turned R (Some t) None a = absurd a
both_turned R (Some t) (Some u) a = a

defaults_turned : (R : ℕ → ℕ → Type 0) (d e : Option Arm) → AlikeDefaults R d e → AlikeDefaults (turned R) e d
defaults_turned R None None a = tt
defaults_turned R None (Some u) a = absurd a
defaults_turned R (Some t) None a = absurd a
defaults_turned R (Some t) (Some u) a = both_turned R t.of u.of a

fields_turned : (R : ℕ → ℕ → Type 0) (f g : Field) → AlikeFields R f g → AlikeFields (turned R) g f
fields_turned R f g a = record { types = a.types; vars = sym a.vars }

arms_turned : (R : ℕ → ℕ → Type 0) (f g : Arm) → AlikeArms R f g → AlikeArms (turned R) g f
arms_turned R f g a = record { label = sym a.label; types = both_turned R f.of g.of a.types }

pub types_turned : (R : ℕ → ℕ → Type 0) {d e : Option TypeDef} → AlikeTypes R d e → AlikeTypes (turned R) e d
types_turned R (alike_prims p) = alike_prims p
types_turned R (alike_enums vs) = alike_enums vs
types_turned R (alike_structs fs gs a) = alike_structs gs fs (one_turned (AlikeFields R) (AlikeFields (turned R)) (fields_turned R) fs gs a)
types_turned R (alike_arrays t u b v a) = alike_arrays u t b v a
types_turned R (alike_texts t u b a) = alike_texts u t b a
types_turned R (alike_unions t u n xs ys d e a b c) =
    alike_unions u t n ys xs e d a (one_turned (AlikeArms R) (AlikeArms (turned R)) (arms_turned R) xs ys b) (defaults_turned R d e c)
types_turned R (alike_pointers k t u a) = alike_pointers k u t a
types_turned R alike_contexts = alike_contexts
types_turned R (alike_pipes t u a) = alike_pipes u t a

pub tied_turned : (R : ℕ → ℕ → Type 0) (old new : Table) → IsTied R old new → IsTied (turned R) new old
tied_turned R old new k =
    record {
      alike = λ u t a. types_turned R (k.alike t u a);
      one_new = λ u t v a b. k.one_old t v u a b;
      one_old = λ t u v a b. k.one_new v t u a b;
      old_known = λ u t a. k.new_known t u a;
      new_known = λ u t a. k.old_known t u a;
    }

params_turned : (R : ℕ → ℕ → Type 0) (p q : Param) → AlikeParams R p q → AlikeParams (turned R) q p
params_turned R p q a = record { way = sym a.way; vars = sym a.vars; types = types_turned_or R p q a.types }
  where
    types_turned_or : (R : ℕ → ℕ → Type 0) (p q : Param) → ((p.field.of.0 ≡ HANDLE.0) × (q.field.of.0 ≡ HANDLE.0)) ⊎ R p.field.of.0 q.field.of.0
        → ((q.field.of.0 ≡ HANDLE.0) × (p.field.of.0 ≡ HANDLE.0)) ⊎ R p.field.of.0 q.field.of.0
    types_turned_or R p q (inl h) = inl (h.1, h.0)
    types_turned_or R p q (inr r) = inr r

pub operations_turned : (R : ℕ → ℕ → Type 0) (o q : Operation) → AlikeOperations R o q → AlikeOperations (turned R) q o
operations_turned R o q a =
    record {
      params = one_turned (AlikeParams R) (AlikeParams (turned R)) (params_turned R) o.params q.params a.params;
      result = both_turned R o.result q.result a.result;
    }

-- ## Lists of types

pub one_map : {X Y : Type 0} (P : X → Y → Type 0) (R : ℕ → ℕ → Type 0) (f : X → ℕ) (g : Y → ℕ) → ((x : X) (y : Y) → P x y → R (f x) (g y))
    → (xs : List X) (ys : List Y) → OneByOne P xs ys → OneByOne R (map f xs) (map g ys)
one_map P R f g k [] [] a = tt
one_map P R f g k [] (y ∷ ys) a = absurd a
one_map P R f g k (x ∷ xs) [] a = absurd a
one_map P R f g k (x ∷ xs) (y ∷ ys) a = (k x y a.0, one_map P R f g k xs ys a.1)

pub one_append : {X Y : Type 0} (P : X → Y → Type 0) (xs : List X) (ys : List Y) (xs' : List X) (ys' : List Y) → OneByOne P xs ys → OneByOne P xs' ys'
    → OneByOne P (xs ++ xs') (ys ++ ys')
one_append P [] [] xs' ys' a b = b
one_append P [] (y ∷ ys) xs' ys' a b = absurd a
one_append P (x ∷ xs) [] xs' ys' a b = absurd a
one_append P (x ∷ xs) (y ∷ ys) xs' ys' a b = (a.0, one_append P xs ys xs' ys' a.1 b)

pub fields_typed : (R : ℕ → ℕ → Type 0) (fs gs : List Field) → OneByOne (AlikeFields R) fs gs → OneByOne R (map (λ f. f.of.0) fs) (map (λ f. f.of.0) gs)
fields_typed R fs gs a = one_map (AlikeFields R) R (λ f. f.of.0) (λ f. f.of.0) (λ f g k. k.types) fs gs a

pub lists_typed : (R : ℕ → ℕ → Type 0) (o p : Option TypeId) → BothOrNone R o p → OneByOne R (type_list o) (type_list p)
lists_typed R None None a = tt
lists_typed R None (Some u) a = absurd a
lists_typed R (Some t) None a = absurd a
lists_typed R (Some t) (Some u) a = (a, tt)

pub arms_typed : (R : ℕ → ℕ → Type 0) (xs ys : List Arm) → OneByOne (AlikeArms R) xs ys → OneByOne R (arm_types xs) (arm_types ys)
arms_typed R [] [] a = tt
arms_typed R [] (y ∷ ys) a = absurd a
arms_typed R (x ∷ xs) [] a = absurd a
arms_typed R (x ∷ xs) (y ∷ ys) a =
    one_append R (arm_type x) (arm_type y) (arm_types xs) (arm_types ys) (lists_typed R x.of y.of a.0.types) (arms_typed R xs ys a.1)

pub default_typed : (R : ℕ → ℕ → Type 0) (d e : Option Arm) → AlikeDefaults R d e → OneByOne R (default_type d) (default_type e)
default_typed R None None a = tt
default_typed R None (Some u) a = absurd a
default_typed R (Some t) None a = absurd a
default_typed R (Some t) (Some u) a = lists_typed R t.of u.of a

-- ## Layout

module _ (R : ℕ → ℕ → Type 0) (old new : Table) (k : IsTied R old new) where
  tags_alike : {d e : Option TypeDef} → AlikeTypes R d e → tag_width d ≡ tag_width e
  tags_alike (alike_prims p) = refl
  tags_alike (alike_enums vs) = refl
  tags_alike (alike_structs fs gs a) = refl
  tags_alike (alike_arrays t u b v a) = refl
  tags_alike (alike_texts t u b a) = refl
  tags_alike (alike_unions t u n xs ys d e a b c) = refl
  tags_alike (alike_pointers c t u a) = refl
  tags_alike alike_contexts = refl
  tags_alike (alike_pipes t u a) = refl

  largest_alike : (f g : ℕ → ℕ) → ((t u : ℕ) → R t u → f t ≡ g u) → (ts us : List ℕ) → OneByOne R ts us → largest (map f ts) ≡ largest (map g us)
  largest_alike f g same [] [] a = refl
  largest_alike f g same [] (u ∷ us) a = absurd a
  largest_alike f g same (t ∷ ts) [] a = absurd a
  largest_alike f g same (t ∷ ts) (u ∷ us) a = ap₂ (λ m n. max m n) (same t u a.0) (largest_alike f g same ts us a.1)

  members_alike : (f g : ℕ → ℕ) → ((t u : ℕ) → R t u → f t ≡ g u) → (ts us : List Field) → OneByOne (AlikeFields R) ts us
      → largest (map (λ m. f m.of.0) ts) ≡ largest (map (λ m. g m.of.0) us)
  members_alike f g same [] [] a = refl
  members_alike f g same [] (u ∷ us) a = absurd a
  members_alike f g same (t ∷ ts) [] a = absurd a
  members_alike f g same (t ∷ ts) (u ∷ us) a = ap₂ (λ m n. max m n) (same t.of.0 u.of.0 a.0.types) (members_alike f g same ts us a.1)

  align_by_alike : (f g : ℕ → ℕ) → ((t u : ℕ) → R t u → f t ≡ g u) → {d e : Option TypeDef} → AlikeTypes R d e → align_by old f d ≡ align_by new g e
  align_by_alike f g same (alike_prims p) = refl
  align_by_alike f g same (alike_enums vs) = refl
  align_by_alike f g same (alike_structs fs gs a) = members_alike f g same fs gs a
  align_by_alike f g same (alike_arrays t u b v a) = ap (at_least_4 v) (same t.0 u.0 a)
  align_by_alike f g same (alike_texts t u b a) = refl
  align_by_alike f g same (alike_unions t u n xs ys d e a b c) =
      ap₂ (λ m n. max m n) (tags_alike (k.alike t.0 u.0 a))
      (largest_alike f g same (arm_types xs ++ default_type d) (arm_types ys ++ default_type e)
      (one_append R (arm_types xs) (arm_types ys) (default_type d) (default_type e) (arms_typed R xs ys b) (default_typed R d e c)))
  align_by_alike f g same (alike_pointers c t u a) = refl
  align_by_alike f g same alike_contexts = refl
  align_by_alike f g same (alike_pipes t u a) = refl

  align_within_alike : (n t u : ℕ) → R t u → align_within n old t ≡ align_within n new u
  align_within_alike zero t u a = refl
  align_within_alike (suc n) t u a = align_by_alike (align_within n old) (align_within n new) (align_within_alike n) (k.alike t u a)

  pub align_alike : (t u : ℕ) → R t u → align_of old t ≡ align_of new u
  unfolding align_of
  align_alike t u a = align_within_alike NESTING_LIMIT t u a

  last_alike : (f g : ℕ → Bool) → ((t u : ℕ) → R t u → f t ≡ g u) → (ts us : List Field) → OneByOne (AlikeFields R) ts us → last_hoists f ts ≡ last_hoists g us
  last_alike f g same [] [] a = refl
  last_alike f g same [] (u ∷ us) a = absurd a
  last_alike f g same (t ∷ ts) [] a = absurd a
  last_alike f g same (t ∷ []) (u ∷ []) a = same t.of.0 u.of.0 a.0.types
  last_alike f g same (t ∷ []) (u ∷ v ∷ us) a = absurd a.1
  last_alike f g same (t ∷ s ∷ ts) (u ∷ []) a = absurd a.1
  last_alike f g same (t ∷ s ∷ ts) (u ∷ v ∷ us) a = last_alike f g same (s ∷ ts) (v ∷ us) a.1

  hoists_by_alike : (f g : ℕ → Bool) → ((t u : ℕ) → R t u → f t ≡ g u) → {d e : Option TypeDef} → AlikeTypes R d e → hoists_by f d ≡ hoists_by g e
  hoists_by_alike f g same (alike_prims p) = refl
  hoists_by_alike f g same (alike_enums vs) = refl
  hoists_by_alike f g same (alike_structs fs gs a) = last_alike f g same fs gs a
  hoists_by_alike f g same (alike_arrays t u b v a) = refl
  hoists_by_alike f g same (alike_texts t u b a) = refl
  hoists_by_alike f g same (alike_unions t u n xs ys d e a b c) = refl
  hoists_by_alike f g same (alike_pointers c t u a) = refl
  hoists_by_alike f g same alike_contexts = refl
  hoists_by_alike f g same (alike_pipes t u a) = refl

  hoists_within_alike : (n t u : ℕ) → R t u → hoists_within n old t ≡ hoists_within n new u
  hoists_within_alike zero t u a = refl
  hoists_within_alike (suc n) t u a = hoists_by_alike (hoists_within n old) (hoists_within n new) (hoists_within_alike n) (k.alike t u a)

  pub hoists_alike : (t u : ℕ) → R t u → hoists old t ≡ hoists new u
  unfolding hoists
  hoists_alike t u a = hoists_within_alike NESTING_LIMIT t u a
