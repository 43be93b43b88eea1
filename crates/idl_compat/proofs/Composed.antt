-- Comparison is reflexive and transitive: an interface is alike to itself by all its types, and pairs of pairs make alike what each list makes alike.
use Rattle.std.proofs.Common.{arith, ◌≡◌, ℕ, ◌<◌, ◌≤◌, zero, suc, Bool, true, false, not, ◌||◌, eqb, ltb, List, [], ◌∷◌, ◌++◌, Option, Some, None, refl, ap, sym, ◌∙◌, subst, length, inl, inr}
use Rattle.std.proofs.Common.{◌⊎◌, map}
use Rattle.std.specs.Prelude.{slice_get}
use Rattle.std.specs.List.{list_all}
use Rattle.std.proofs.lemmas.Bool.{eqb-true, eqb-false, ltb-true, or_cases}
use Rattle.std.proofs.lemmas.Option.{same_Some, slice_get-get_or}
use Rattle.nd_lemmas.proofs.Booleans.{first_true, second_true}
use Rattle.nd_lemmas.proofs.Lists.{none_below}
use Rattle.nd_types.specs.declared.interface.Interface.{Interface}
use Rattle.nd_types.specs.declared.types.TypeId.{TypeId}
use Rattle.nd_types.specs.declared.types.TypeDef.{TypeDef}
use Rattle.nd_types.specs.declared.types.TypeDef.TheVariants as def
use Rattle.nd_types.specs.declared.types.Field.{Field}
use Rattle.nd_types.specs.declared.types.Arm.{Arm}
use Rattle.nd_types.specs.declared.types.Param.{Param}
use Rattle.nd_types.specs.declared.types.Operation.{Operation}
use Rattle.nd_types.specs.declared.TheConstants.{HANDLE}
use Rattle.nd_types.specs.Table.{Table, type_at}
use Rattle.nd_types.specs.Layout.{arm_types, arm_type, default_type, type_list}
use Rattle.nd_types.specs.Legal.{named_types, is_in_table, is_handle, result_passes}
use Rattle.nd_value.specs.Setting.{Among}
use Rattle.idl_compat.specs.declared.pairs.TypePair.{TypePair}
use Rattle.idl_compat.specs.declared.compared.Compared.TheVariants.{Yes}
use Rattle.idl_compat.specs.Comparison.{OneByOne, BothOrNone, IsPair, IsOneToOne, Alike, AlikeFound, AlikeFields, AlikeArms, AlikeDefaults, AlikeTypes, alike_prims, alike_enums, alike_structs}
use Rattle.idl_compat.specs.Comparison.{alike_arrays, alike_texts, alike_unions, alike_pointers, alike_contexts, alike_pipes, AlikeParams, AlikeOperations, IsOneUuid, IsNewer, HasAll, IsAllAlike}
use Rattle.idl_compat.specs.Comparison.{IsCompared}
use Rattle.idl_compat.proofs.Carrying.{tied_by}
use Rattle.idl_compat.proofs.Placed.{pair_left, pair_right, pair_split}

-- ## Types with themselves

among_left : {X : Type 0} (xs ys : List X) (x : X) → Among xs x → Among (xs ++ ys) x
among_left [] ys x h = absurd h
among_left (z ∷ xs) ys x (inl e) = inl e
among_left (z ∷ xs) ys x (inr h) = inr (among_left xs ys x h)

among_right : {X : Type 0} (xs ys : List X) (x : X) → Among ys x → Among (xs ++ ys) x
among_right [] ys x h = h
among_right (z ∷ xs) ys x h = inr (among_right xs ys x h)

below : (t n : ℕ) → t < suc n → (t ≡ n → ⊥) → t < n
below zero zero l f = absurd (f refl)
below zero (suc n) l f = omega arith
below (suc t) zero l f = absurd (omega (arith, l))
below (suc t) (suc n) l f = let a : t < n = below t n (omega (arith, l)) (λ e. f (ap suc e)) in omega (arith, a)

module _ (R : ℕ → ℕ → Type 0) where
  fields_self : (fs : List Field) → ((v : ℕ) → Among (map (λ f. f.of.0) fs) v → R v v) → OneByOne (AlikeFields R) fs fs
  fields_self [] k = tt
  fields_self (f ∷ fs) k = (record { types = k f.of.0 (inl refl); vars = refl }, fields_self fs (λ v h. k v (inr h)))

  both_self : (o : Option TypeId) → ((t : TypeId) → o ≡ Some t → R t.0 t.0) → BothOrNone R o o
  both_self None k = tt
  both_self (Some t) k = k t refl

  arm_self : (a : Arm) (o : Option TypeId) → a.of ≡ o → ((v : ℕ) → Among (arm_type a) v → R v v) → BothOrNone R a.of a.of
  arm_self a None e k = subst (λ x. BothOrNone R x x) (sym e) tt
  arm_self a (Some t) e k = subst (λ x. BothOrNone R x x) (sym e) (k t.0 (subst (λ x. Among (type_list x) t.0) (sym e) (inl refl)))

  arms_self : (xs' : List Arm) → ((v : ℕ) → Among (arm_types xs') v → R v v) → OneByOne (AlikeArms R) xs' xs'
  arms_self [] k = tt
  arms_self (a ∷ xs) k = (
    record { label = refl; types = arm_self a a.of refl (λ v h. k v (among_left (arm_type a) (arm_types xs) v h)) },
    arms_self xs (λ v h. k v (among_right (arm_type a) (arm_types xs) v h)),
  )

  default_self : (d : Option Arm) → ((v : ℕ) → Among (default_type d) v → R v v) → AlikeDefaults R d d
  default_self None k = tt
  default_self (Some a) k = arm_self a a.of refl k

  pub types_self : (d : TypeDef) → ((v : ℕ) → Among (named_types d) v → R v v) → AlikeTypes R (Some d) (Some d)
  types_self (def.Prim p) k = alike_prims p
  types_self (def.Enum vs) k = alike_enums vs
  types_self (def.Struct fs) k = alike_structs fs fs (fields_self fs (λ v h. k v (among_left (map (λ f. f.of.0) fs ++ []) [] v (among_left (map (λ f. f.of.0) fs) [] v h))))
  types_self (def.Array t b varying) k = alike_arrays t t b varying (k t.0 (inl refl))
  types_self (def.Text t b) k = alike_texts t t b (k t.0 (inl refl))
  types_self (def.Union t encapsulated xs d) k =
      let A : List ℕ = arm_types xs in
      let D : List ℕ = default_type d in
      alike_unions t t encapsulated xs xs d d (k t.0 (among_left ((A ++ D) ++ t.0 ∷ []) [] t.0 (among_right (A ++ D) (t.0 ∷ []) t.0 (inl refl))))
      (arms_self xs (λ v h. k v (among_left ((A ++ D) ++ t.0 ∷ []) [] v (among_left (A ++ D) (t.0 ∷ []) v (among_left A D v h)))))
      (default_self d (λ v h. k v (among_left ((A ++ D) ++ t.0 ∷ []) [] v (among_left (A ++ D) (t.0 ∷ []) v (among_right A D v h)))))
  types_self (def.Pointer class t) k = alike_pointers class t t (k t.0 (inl refl))
  types_self def.Context k = alike_contexts
  types_self (def.Pipe t) k = alike_pipes t t (k t.0 (inl refl))

  params_self : (ps : List Param) → ((p : Param) → Among ps p → ((p.field.of.0 ≡ HANDLE.0) × (p.field.of.0 ≡ HANDLE.0)) ⊎ R p.field.of.0 p.field.of.0) → OneByOne (AlikeParams R) ps ps
  params_self [] k = tt
  params_self (p ∷ ps) k = (record { way = refl; vars = refl; types = k p (inl refl) }, params_self ps (λ q h. k q (inr h)))

-- ## An interface with itself

-- each of the first types with itself
abbrev pub selves : ℕ → List TypePair
selves zero = []
selves (suc n) = record { old = record { 0 = n }; new = record { 0 = n } } ∷ selves n

selves_same : (n t u : ℕ) → IsPair (selves n) t u → (t ≡ u) × (t < n)
selves_same zero t u h = absurd h
selves_same (suc n) t u (inl h) = let e : t ≡ n = h.0 in (h.0 ∙ sym h.1, omega (arith, e))
selves_same (suc n) t u (inr h) = let a = selves_same n t u h in let l : t < n = a.1 in (a.0, omega (arith, l))

selves_has : (n t : ℕ) → t < n → IsPair (selves n) t t
selves_has zero t l = absurd (omega (arith, l))
selves_has (suc n) t l = by (λ k. selves_has n t k) (eqb t n) refl
  where
    by : (t < n → IsPair (selves n) t t) → (b : Bool) → eqb t n ≡ b → IsPair (selves (suc n)) t t
    by rest true e = inl (eqb-true t n e, eqb-true t n e)
    by rest false e = let differ : t ≡ n → ⊥ = eqb-false t n e in inr (rest (below t n l differ))

all_among : {X : Type 0} (p : X → Bool) (xs : List X) → list_all p xs ≡ true → (x : X) → Among xs x → p x ≡ true
all_among p [] e x h = absurd h
all_among p (y ∷ ys) e x (inl h) = ap p h ∙ first_true (p y) (list_all p ys) e
all_among p (y ∷ ys) e x (inr h) = all_among p ys (second_true (p y) (list_all p ys) e) x h

at_among : {X : Type 0} (xs : List X) (i : ℕ) (x : X) → slice_get xs i ≡ Some x → Among xs x
at_among [] i x e = cc
at_among (y ∷ ys) zero x e = inl (sym (same_Some y x e))
at_among (y ∷ ys) (suc i) x e = inr (at_among ys i x e)

module _ (i : Interface) where
  abbrev n : ℕ
  n = length i.types

  abbrev self : ℕ → ℕ → Type 0
  self = IsPair (selves n)

  known : (v : ℕ) → is_in_table i.types v ≡ true → self v v
  known v e = selves_has n v (ltb-true v n e)

  one : IsOneToOne (selves n)
  one =
      record {
        new = λ t u v a b. sym (selves_same n t u a).0 ∙ (selves_same n t v b).0;
        old = λ t u v a b. (selves_same n t v a).0 ∙ sym (selves_same n u v b).0;
        basic = λ t u a l. (selves_same n t u a).0;
      }

  types_by : (t : ℕ) (o : Option TypeDef) → type_at i.types t ≡ o → t < n → AlikeTypes self o o
  types_by t None e l = absurd (none_below i.types t l e)
  types_by t (Some d) e l =
      let k : list_all (is_in_table i.types) (named_types d) ≡ true =
      all_among (λ x. list_all (is_in_table i.types) (named_types x)) i.types i.legal.types_known d (at_among i.types t d e) in
      types_self self d (λ v h. known v (all_among (is_in_table i.types) (named_types d) k v h))

  param_by : (p : Param) → (is_handle p || is_in_table i.types p.field.of.0) ≡ true → ((p.field.of.0 ≡ HANDLE.0) × (p.field.of.0 ≡ HANDLE.0)) ⊎ self p.field.of.0 p.field.of.0
  param_by p e = by (or_cases (is_handle p) (is_in_table i.types p.field.of.0) e)
    where
      by : (is_handle p ≡ true) ⊎ (is_in_table i.types p.field.of.0 ≡ true) → ((p.field.of.0 ≡ HANDLE.0) × (p.field.of.0 ≡ HANDLE.0)) ⊎ self p.field.of.0 p.field.of.0
      by (inl a) = inl (eqb-true p.field.of.0 HANDLE.0 a, eqb-true p.field.of.0 HANDLE.0 a)
      by (inr a) = inr (known p.field.of.0 a)

  result_by : (r : Option TypeId) → result_passes (is_in_table i.types) r ≡ true → BothOrNone self r r
  result_by None e = tt
  result_by (Some t) e = known t.0 e

  operation_by : (k : ℕ) (o : Option Operation) → slice_get i.operations k ≡ o → k < length i.operations → AlikeFound self o o
  operation_by k None e l = absurd (none_below i.operations k l e)
  operation_by k (Some o) e l =
      let h : Among i.operations o = at_among i.operations k o e in
      let P : Param → Bool = λ p. is_handle p || is_in_table i.types p.field.of.0 in
      let ps : list_all P o.params ≡ true = all_among (λ x. list_all P x.params) i.operations i.legal.params_known o h in
      record {
        params = params_self self o.params (λ p g. param_by p (all_among P o.params ps p g));
        result = result_by o.result (all_among (λ x. result_passes (is_in_table i.types) x.result) i.operations i.legal.results_known o h);
      }

  all_self : IsOneUuid i.uuid i.uuid → IsAllAlike i i (selves n)
  all_self u =
      record {
        all = record { newer = record { uuid = u; major = refl; minor = omega arith }; operations = omega arith };
        alike = record {
          one_to_one = one;
          operations = λ k l. operation_by k (slice_get i.operations k) refl l;
          types = λ t v h. let a = selves_same n t v h in subst (λ x. AlikeTypes self (type_at i.types t) (type_at i.types x)) a.0 (types_by t (type_at i.types t) refl a.1);
        };
      }

  pub with_itself : (u : ℕ) → i.uuid ≡ Some u → (m : List TypePair) × IsCompared i i (Yes m)
  with_itself u e = (selves n, all_self (subst (λ x. IsOneUuid x x) (sym e) refl))

-- ## Three interfaces

module _ (R S T : ℕ → ℕ → Type 0) (f : (t u v : ℕ) → R t u → S u v → T t v) where
  one_through : {X Y Z : Type 0} (P : X → Y → Type 0) (Q : Y → Z → Type 0) (W : X → Z → Type 0) → ((x : X) (y : Y) (z : Z) → P x y → Q y z → W x z)
      → (xs : List X) (ys : List Y) (zs : List Z) → OneByOne P xs ys → OneByOne Q ys zs → OneByOne W xs zs
  one_through P Q W k [] [] [] a b = tt
  one_through P Q W k [] [] (z ∷ zs) a b = absurd b
  one_through P Q W k [] (y ∷ ys) zs a b = absurd a
  one_through P Q W k (x ∷ xs) [] zs a b = absurd a
  one_through P Q W k (x ∷ xs) (y ∷ ys) [] a b = absurd b
  one_through P Q W k (x ∷ xs) (y ∷ ys) (z ∷ zs) a b = (k x y z a.0 b.0, one_through P Q W k xs ys zs a.1 b.1)

  both_through : (o p q : Option TypeId) → BothOrNone R o p → BothOrNone S p q → BothOrNone T o q
  both_through None None None a b = tt
  both_through None None (Some v) a b = absurd b
  both_through None (Some u) q a b = absurd a
  both_through (Some t) None q a b = absurd a
  both_through (Some t) (Some u) None a b = absurd b
  both_through (Some t) (Some u) (Some v) a b = f t.0 u.0 v.0 a b

  defaults_through : (o p q : Option Arm) → AlikeDefaults R o p → AlikeDefaults S p q → AlikeDefaults T o q
  defaults_through None None None a b = tt
  defaults_through None None (Some v) a b = absurd b
  defaults_through None (Some u) q a b = absurd a
  defaults_through (Some t) None q a b = absurd a
  defaults_through (Some t) (Some u) None a b = absurd b
  defaults_through (Some t) (Some u) (Some v) a b = both_through t.of u.of v.of a b

  types_through : {x y z : Option TypeDef} → AlikeTypes R x y → AlikeTypes S y z → AlikeTypes T x z
  types_through (alike_prims p) (alike_prims _) = alike_prims p
  types_through (alike_enums vs) (alike_enums _) = alike_enums vs
  types_through (alike_structs fs gs a) (alike_structs _ hs b) =
      alike_structs fs hs (one_through (AlikeFields R) (AlikeFields S) (AlikeFields T)
      (λ x y z j k. record { types = f x.of.0 y.of.0 z.of.0 j.types k.types; vars = j.vars ∙ k.vars }) fs gs hs a b)
  types_through (alike_arrays t u o v a) (alike_arrays _ w _ _ b) = alike_arrays t w o v (f t.0 u.0 w.0 a b)
  types_through (alike_texts t u o a) (alike_texts _ w _ b) = alike_texts t w o (f t.0 u.0 w.0 a b)
  types_through (alike_unions t u n xs ys d e a b c) (alike_unions _ w _ _ zs _ g a' b' c') =
      alike_unions t w n xs zs d g (f t.0 u.0 w.0 a a')
      (one_through (AlikeArms R) (AlikeArms S) (AlikeArms T) (λ x y z j k. record { label = j.label ∙ k.label; types = both_through x.of y.of z.of j.types k.types }) xs ys zs b b')
      (defaults_through d e g c c')
  types_through (alike_pointers k t u a) (alike_pointers _ _ w b) = alike_pointers k t w (f t.0 u.0 w.0 a b)
  types_through alike_contexts alike_contexts = alike_contexts
  types_through (alike_pipes t u a) (alike_pipes _ w b) = alike_pipes t w (f t.0 u.0 w.0 a b)

  module _ (no_left : (t u : ℕ) → R t u → u ≡ HANDLE.0 → ⊥) (no_right : (u v : ℕ) → S u v → u ≡ HANDLE.0 → ⊥) where
    either_through : (t u v : ℕ) → ((t ≡ HANDLE.0) × (u ≡ HANDLE.0)) ⊎ R t u → ((u ≡ HANDLE.0) × (v ≡ HANDLE.0)) ⊎ S u v → ((t ≡ HANDLE.0) × (v ≡ HANDLE.0)) ⊎ T t v
    either_through t u v (inl a) (inl b) = inl (a.0, b.1)
    either_through t u v (inl a) (inr b) = absurd (no_right u v b a.1)
    either_through t u v (inr a) (inl b) = absurd (no_left t u a b.0)
    either_through t u v (inr a) (inr b) = inr (f t u v a b)

    found_through : (x y z : Option Operation) → AlikeFound R x y → AlikeFound S y z → AlikeFound T x z
    found_through None y z a b = absurd a
    found_through (Some x) None z a b = absurd a
    found_through (Some x) (Some y) None a b = absurd b
    found_through (Some x) (Some y) (Some z) a b =
        record {
          params = one_through (AlikeParams R) (AlikeParams S) (AlikeParams T)
              (λ p q r j k. record { way = j.way ∙ k.way; vars = j.vars ∙ k.vars; types = either_through p.field.of.0 q.field.of.0 r.field.of.0 j.types k.types }) x.params y.params z.params
              a.params b.params;
          result = both_through x.result y.result z.result a.result b.result;
        }

-- the pairs of a type of the first interface and one of the third that have a partner in common
abbrev pub through_one : TypePair → List TypePair → List TypePair
through_one p [] = []
through_one p (q ∷ qs) = elim (eqb p.new.0 q.old.0) [ true ↦ record { old = p.old; new = q.new } ∷ through_one p qs | false ↦ through_one p qs ]

abbrev pub through : List TypePair → List TypePair → List TypePair
through [] qs = []
through (p ∷ ps) qs = through_one p qs ++ through ps qs

-- a type between two
record Between (ps qs : List TypePair) (t v : ℕ) : Type 0 where
  mid : ℕ
  left : IsPair ps t mid
  right : IsPair qs mid v

through_one_parts : (p : TypePair) (qs : List TypePair) (t v : ℕ) → IsPair (through_one p qs) t v → (t ≡ p.old.0) × IsPair qs p.new.0 v
through_one_parts p [] t v h = absurd h
through_one_parts p (q ∷ qs) t v h = by (through_one_parts p qs t v) (eqb p.new.0 q.old.0) refl h
  where
    by : (IsPair (through_one p qs) t v → (t ≡ p.old.0) × IsPair qs p.new.0 v) → (b : Bool) → eqb p.new.0 q.old.0 ≡ b
        → IsPair (elim b [ true ↦ record { old = p.old; new = q.new } ∷ through_one p qs | false ↦ through_one p qs ]) t v → (t ≡ p.old.0) × IsPair (q ∷ qs) p.new.0 v
    by k true e (inl g) = (g.0, inl (eqb-true p.new.0 q.old.0 e, g.1))
    by k true e (inr g) = let a = k g in (a.0, inr a.1)
    by k false e g = let a = k g in (a.0, inr a.1)

through_one_has : (p : TypePair) (qs : List TypePair) (v : ℕ) → IsPair qs p.new.0 v → IsPair (through_one p qs) p.old.0 v
through_one_has p [] v h = absurd h
through_one_has p (q ∷ qs) v (inl h) = by (eqb p.new.0 q.old.0) refl
  where
    by : (b : Bool) → eqb p.new.0 q.old.0 ≡ b → IsPair (elim b [ true ↦ record { old = p.old; new = q.new } ∷ through_one p qs | false ↦ through_one p qs ]) p.old.0 v
    by true e = inl (refl, h.1)
    by false e = absurd (eqb-false p.new.0 q.old.0 e h.0)
through_one_has p (q ∷ qs) v (inr h) = by (through_one_has p qs v h) (eqb p.new.0 q.old.0)
  where
    by : IsPair (through_one p qs) p.old.0 v → (b : Bool) → IsPair (elim b [ true ↦ record { old = p.old; new = q.new } ∷ through_one p qs | false ↦ through_one p qs ]) p.old.0 v
    by k true = inr k
    by k false = k

between : (ps qs : List TypePair) (t v : ℕ) → IsPair (through ps qs) t v → Between ps qs t v
between [] qs t v h = absurd h
between (p ∷ ps) qs t v h = by (between ps qs t v) (pair_split (through_one p qs) (through ps qs) t v h)
  where
    by : (IsPair (through ps qs) t v → Between ps qs t v) → IsPair (through_one p qs) t v ⊎ IsPair (through ps qs) t v → Between (p ∷ ps) qs t v
    by k (inl a) = let b = through_one_parts p qs t v a in record { mid = p.new.0; left = inl (b.0, refl); right = b.1 }
    by k (inr a) = let b = k a in record { mid = b.mid; left = inr b.left; right = b.right }

through_has : (ps qs : List TypePair) (t u v : ℕ) → IsPair ps t u → IsPair qs u v → IsPair (through ps qs) t v
through_has [] qs t u v h g = absurd h
through_has (p ∷ ps) qs t u v (inl h) g =
    pair_left (through_one p qs) (through ps qs) t v
    (subst (λ x. IsPair (through_one p qs) x v) (sym h.0) (through_one_has p qs v (subst (λ x. IsPair qs x v) h.1 g)))
through_has (p ∷ ps) qs t u v (inr h) g = pair_right (through_one p qs) (through ps qs) t v (through_has ps qs t u v h g)

uuids_through : (x y z : Option ℕ) → IsOneUuid x y → IsOneUuid y z → IsOneUuid x z
uuids_through None y z a b = absurd a
uuids_through (Some x) None z a b = absurd a
uuids_through (Some x) (Some y) None a b = absurd b
uuids_through (Some x) (Some y) (Some z) a b = a ∙ b

module _ (first second third : Interface) (m n : List TypePair) (a : IsAllAlike first second m) (b : IsAllAlike second third n) where
  A : Alike first second m (length first.operations)
  A = a.alike

  B : Alike second third n (length second.operations)
  B = b.alike

  join : (t u v : ℕ) → IsPair m t u → IsPair n u v → IsPair (through m n) t v
  join t u v h g = through_has m n t u v h g

  no_left : (t u : ℕ) → IsPair m t u → u ≡ HANDLE.0 → ⊥
  no_left t u h e = eqb-false u HANDLE.0 ((tied_by first second m (length first.operations) A).new_known t u h) e

  no_right : (u v : ℕ) → IsPair n u v → u ≡ HANDLE.0 → ⊥
  no_right u v h e = eqb-false u HANDLE.0 ((tied_by second third n (length second.operations) B).old_known u v h) e

  one_new : (t u v : ℕ) → IsPair (through m n) t u → IsPair (through m n) t v → u ≡ v
  one_new t u v h g =
      let x : Between m n t u = between m n t u h in
      let y : Between m n t v = between m n t v g in
      let e : x.mid ≡ y.mid = A.one_to_one.new t x.mid y.mid x.left y.left in
      B.one_to_one.new y.mid u v (subst (λ z. IsPair n z u) e x.right) y.right

  one_old : (t u v : ℕ) → IsPair (through m n) t v → IsPair (through m n) u v → t ≡ u
  one_old t u v h g =
      let x : Between m n t v = between m n t v h in
      let y : Between m n u v = between m n u v g in
      let e : x.mid ≡ y.mid = B.one_to_one.old x.mid y.mid v x.right y.right in
      A.one_to_one.old t u y.mid (subst (λ z. IsPair m t z) e x.left) y.left

  basic_by : (t u : ℕ) → Between m n t u → (t < 12) ⊎ (u < 12) → t ≡ u
  basic_by t u x (inl l) =
      let e : t ≡ x.mid = A.one_to_one.basic t x.mid x.left (inl l) in
      e ∙ B.one_to_one.basic x.mid u x.right (inl (subst (λ z. z < 12) e l))
  basic_by t u x (inr l) =
      let e : x.mid ≡ u = B.one_to_one.basic x.mid u x.right (inr l) in
      A.one_to_one.basic t x.mid x.left (inr (subst (λ z. z < 12) (sym e) l)) ∙ e

  types_joined : (t v : ℕ) → Between m n t v → AlikeTypes (IsPair (through m n)) (type_at first.types t) (type_at third.types v)
  types_joined t v x = types_through (IsPair m) (IsPair n) (IsPair (through m n)) join (A.types t x.mid x.left) (B.types x.mid v x.right)

  pub composed : IsAllAlike first third (through m n)
  composed =
      let few : length first.operations ≤ length second.operations = a.all.operations in
      let few' : length second.operations ≤ length third.operations = b.all.operations in
      let minor : first.minor ≤ second.minor = a.all.newer.minor in
      let minor' : second.minor ≤ third.minor = b.all.newer.minor in
      record {
        all = record {
          newer = record {
            uuid = uuids_through first.uuid second.uuid third.uuid a.all.newer.uuid b.all.newer.uuid;
            major = a.all.newer.major ∙ b.all.newer.major;
            minor = omega (arith, minor, minor');
          };
          operations = omega (arith, few, few');
        };
        alike = record {
          one_to_one = record { new = one_new; old = one_old; basic = λ t u h l. basic_by t u (between m n t u h) l };
          operations = λ i l. found_through (IsPair m) (IsPair n) (IsPair (through m n)) join no_left no_right (slice_get first.operations i) (slice_get second.operations i)
              (slice_get third.operations i) (A.operations i l) (B.operations i (omega (arith, l, few)));
          types = λ t v h. types_joined t v (between m n t v h);
        };
      }
