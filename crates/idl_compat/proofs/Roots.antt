-- The roots of alike operations, one by one: equal but for their types, which are related.
use Rattle.std.proofs.Common.{arith, ◌≡◌, ℕ, ◌+◌, ◌<◌, length, zero, suc, Bool, true, false, not, ◌&&◌, List, [], ◌∷◌, ◌++◌, Option, Some, None, refl, ap, ap₂, sym, ◌∙◌, subst, map, eqb, cond}
use Rattle.std.proofs.Common.{inl, inr, ◌⊎◌, drop}
use Rattle.std.specs.Prelude.{filter, slice_get}
use Rattle.std.proofs.lemmas.Bool.{eq-eqb}
use Rattle.nd_types.specs.declared.types.TypeId.{TypeId}
use Rattle.nd_types.specs.declared.types.TypeDef.{TypeDef}
use Rattle.nd_types.specs.declared.types.TypeDef.TheVariants as def
use Rattle.nd_types.specs.declared.types.Class.TheVariants as class
use Rattle.nd_types.specs.declared.types.AttrVar.{AttrVar}
use Rattle.nd_types.specs.declared.types.Param.{Param}
use Rattle.nd_types.specs.declared.types.Operation.{Operation}
use Rattle.nd_types.specs.declared.types.Side.{Side}
use Rattle.nd_types.specs.declared.types.Side.TheVariants as side
use Rattle.nd_types.specs.declared.types.Way.{Way}
use Rattle.nd_types.specs.declared.TheConstants.{HANDLE}
use Rattle.nd_types.specs.Table.{Table, type_at}
use Rattle.nd_types.specs.Roots.{Root, roots_of, travels, pipe_referent, pipe_by, pipe_of, root_by, root_of, params_from, result_root, root_index}
use Rattle.nd_lemmas.proofs.Booleans.{first_true as left_true, second_true as right_true}
use Rattle.nd_value.specs.Deferral.{root_type, before_pipes}
use Rattle.idl_compat.specs.Comparison.{OneByOne, BothOrNone, AlikeTypes, alike_prims, alike_enums, alike_structs, alike_arrays, alike_texts, alike_unions, alike_pointers, alike_contexts, alike_pipes}
use Rattle.idl_compat.specs.Comparison.{AlikeParams, AlikeOperations}
use Rattle.idl_compat.proofs.Tied.{IsTied, one_append}

-- a root under both tables
pub data AlikeRoot (R : ℕ → ℕ → Type 0) : Root → Root → Type 0 where
  alike_root : (t u : ℕ) (param : Option ℕ) (vars : List AttrVar) (is_pipe : Bool) → R t u
      → AlikeRoot R (record { of = t; param = param; vars = vars; is_pipe = is_pipe }) (record { of = u; param = param; vars = vars; is_pipe = is_pipe })

-- the pipes that two types are, or no pipes
abbrev BothPipes : (ℕ → ℕ → Type 0) → Option ℕ → Option ℕ → Type 0
BothPipes R None None = Unit {0}
BothPipes R (Some t) (Some u) = R t u
BothPipes R _ _ = ⊥

module _ (R : ℕ → ℕ → Type 0) (old new : Table) (k : IsTied R old new) where
  referent_alike : (t u : ℕ) → R t u → {d e : Option TypeDef} → AlikeTypes R d e → BothPipes R (pipe_referent t d) (pipe_referent u e)
  referent_alike t u r (alike_prims p) = tt
  referent_alike t u r (alike_enums vs) = tt
  referent_alike t u r (alike_structs fs gs a) = tt
  referent_alike t u r (alike_arrays x y b v a) = tt
  referent_alike t u r (alike_texts x y b a) = tt
  referent_alike t u r (alike_unions x y n xs ys d e a b c) = tt
  referent_alike t u r (alike_pointers c x y a) = tt
  referent_alike t u r alike_contexts = tt
  referent_alike t u r (alike_pipes x y a) = r

  pipe_alike : (t u : ℕ) → R t u → {d e : Option TypeDef} → AlikeTypes R d e → BothPipes R (pipe_by old t d) (pipe_by new u e)
  pipe_alike t u r (alike_prims p) = tt
  pipe_alike t u r (alike_enums vs) = tt
  pipe_alike t u r (alike_structs fs gs a) = tt
  pipe_alike t u r (alike_arrays x y b v a) = tt
  pipe_alike t u r (alike_texts x y b a) = tt
  pipe_alike t u r (alike_unions x y n xs ys d e a b c) = tt
  pipe_alike t u r (alike_pointers class.Ref x y a) = referent_alike x.0 y.0 a (k.alike x.0 y.0 a)
  pipe_alike t u r (alike_pointers class.Unique x y a) = tt
  pipe_alike t u r (alike_pointers class.Full x y a) = tt
  pipe_alike t u r alike_contexts = tt
  pipe_alike t u r (alike_pipes x y a) = r

  root_by_alike : (i : ℕ) (p q : Param) → p.field.vars ≡ q.field.vars → R p.field.of.0 q.field.of.0 → (o o' : Option ℕ) → BothPipes R o o'
      → AlikeRoot R (root_by i p o) (root_by i q o')
  root_by_alike i p q e r None None a =
      subst (λ vs. AlikeRoot R (root_by i p None) (record { of = q.field.of.0; param = Some i; vars = vs; is_pipe = false })) e
      (alike_root p.field.of.0 q.field.of.0 (Some i) p.field.vars false r)
  root_by_alike i p q e r None (Some u) a = absurd a
  root_by_alike i p q e r (Some t) None a = absurd a
  root_by_alike i p q e r (Some t) (Some u) a =
      subst (λ vs. AlikeRoot R (root_by i p (Some t)) (record { of = u; param = Some i; vars = vs; is_pipe = true })) e
      (alike_root t u (Some i) p.field.vars true a)

  kept : (b b' : Bool) → b ≡ b' → (x y : Root) (xs ys : List Root) → (b ≡ true → AlikeRoot R x y) → OneByOne (AlikeRoot R) xs ys
      → OneByOne (AlikeRoot R) (elim b [ true ↦ x ∷ xs | false ↦ xs ]) (elim b' [ true ↦ y ∷ ys | false ↦ ys ])
  kept true true e x y xs ys f a = (f refl, a)
  kept true false e x y xs ys f a = cc
  kept false true e x y xs ys f a = cc
  kept false false e x y xs ys f a = a

  handles_alike : (t u : ℕ) → ((t ≡ HANDLE.0) × (u ≡ HANDLE.0)) ⊎ R t u → eqb t HANDLE.0 ≡ eqb u HANDLE.0
  handles_alike t u (inl h) = eq-eqb t HANDLE.0 h.0 ∙ sym (eq-eqb u HANDLE.0 h.1)
  handles_alike t u (inr r) = k.old_known t u r ∙ sym (k.new_known t u r)

  related : (t u : ℕ) → ((t ≡ HANDLE.0) × (u ≡ HANDLE.0)) ⊎ R t u → not (eqb t HANDLE.0) ≡ true → R t u
  related t u (inl h) n = let e : not true ≡ true = ap not (sym (eq-eqb t HANDLE.0 h.0)) ∙ n in cc
  related t u (inr r) n = r

  params_alike : (s : Side) (i : ℕ) (ps qs : List Param) → OneByOne (AlikeParams R) ps qs → OneByOne (AlikeRoot R) (params_from old s i ps) (params_from new s i qs)
  params_alike s i [] [] a = tt
  params_alike s i [] (q ∷ qs) a = absurd a
  params_alike s i (p ∷ ps) [] a = absurd a
  params_alike s i (p ∷ ps) (q ∷ qs) a =
      kept (travels s p.way && not (eqb p.field.of.0 HANDLE.0)) (travels s q.way && not (eqb q.field.of.0 HANDLE.0))
      (ap₂ (λ w b. travels s w && not b) a.0.way (handles_alike p.field.of.0 q.field.of.0 a.0.types))
      (root_of old i p) (root_of new i q) (params_from old s (i + 1) ps) (params_from new s (i + 1) qs)
      (λ t. let r : R p.field.of.0 q.field.of.0 = related p.field.of.0 q.field.of.0 a.0.types (right_true (travels s p.way) (not (eqb p.field.of.0 HANDLE.0)) t) in
      root_by_alike i p q a.0.vars r (pipe_of old p.field.of.0) (pipe_of new q.field.of.0) (pipe_alike p.field.of.0 q.field.of.0 r (k.alike p.field.of.0 q.field.of.0 r)))
      (params_alike s (i + 1) ps qs a.1)

  result_alike : (s : Side) (o p : Option TypeId) → BothOrNone R o p → OneByOne (AlikeRoot R) (result_root s o) (result_root s p)
  result_alike side.In o p a = tt
  result_alike side.Out None None a = tt
  result_alike side.Out None (Some u) a = absurd a
  result_alike side.Out (Some t) None a = absurd a
  result_alike side.Out (Some t) (Some u) a = (alike_root t.0 u.0 None [] false a, tt)

  sifted : (b : Bool) (x y : Root) (xs ys : List Root) → AlikeRoot R x y → OneByOne (AlikeRoot R) xs ys → OneByOne (AlikeRoot R) (cond b (x ∷ xs) xs) (cond b (y ∷ ys) ys)
  sifted true x y xs ys r a = (r, a)
  sifted false x y xs ys r a = a

  pipes_alike : (x y : Root) → AlikeRoot R x y → x.is_pipe ≡ y.is_pipe
  pipes_alike _ _ (alike_root t u p vs b r) = refl

  filter_alike : (f : Bool → Bool) (xs ys : List Root) → OneByOne (AlikeRoot R) xs ys → OneByOne (AlikeRoot R) (filter (λ r. f r.is_pipe) xs) (filter (λ r. f r.is_pipe) ys)
  filter_alike f [] [] a = tt
  filter_alike f [] (y ∷ ys) a = absurd a
  filter_alike f (x ∷ xs) [] a = absurd a
  filter_alike f (x ∷ xs) (y ∷ ys) a =
      subst (λ b. OneByOne (AlikeRoot R) (cond (f x.is_pipe) (x ∷ filter (λ r. f r.is_pipe) xs) (filter (λ r. f r.is_pipe) xs))
      (cond (f b) (y ∷ filter (λ r. f r.is_pipe) ys) (filter (λ r. f r.is_pipe) ys)))
      (pipes_alike x y a.0)
      (sifted (f x.is_pipe) x y (filter (λ r. f r.is_pipe) xs) (filter (λ r. f r.is_pipe) ys) a.0 (filter_alike f xs ys a.1))

  pub roots_alike : (s : Side) (o q : Operation) → AlikeOperations R o q → OneByOne (AlikeRoot R) (roots_of old s o) (roots_of new s q)
  unfolding roots_of
  roots_alike s o q a =
      let ps : List Root = params_from old s 0 o.params in
      let qs : List Root = params_from new s 0 q.params in
      let e : OneByOne (AlikeRoot R) ps qs = params_alike s 0 o.params q.params a.params in
      one_append (AlikeRoot R) (filter (λ r. not r.is_pipe) ps ++ result_root s o.result) (filter (λ r. not r.is_pipe) qs ++ result_root s q.result)
      (filter (λ r. r.is_pipe) ps) (filter (λ r. r.is_pipe) qs)
      (one_append (AlikeRoot R) (filter (λ r. not r.is_pipe) ps) (filter (λ r. not r.is_pipe) qs) (result_root s o.result) (result_root s q.result)
      (filter_alike not ps qs e) (result_alike s o.result q.result a.result))
      (filter_alike (λ b. b) ps qs e)

-- ## What is read off lists of alike roots

module _ (R : ℕ → ℕ → Type 0) where
  pub index_alike : (rs rs' : List Root) → OneByOne (AlikeRoot R) rs rs' → (j i : ℕ) → root_index rs j i ≡ root_index rs' j i
  index_alike [] [] a j i = refl
  index_alike [] (y ∷ ys) a j i = absurd a
  index_alike (x ∷ xs) [] a j i = absurd a
  index_alike (x ∷ xs) (y ∷ ys) a j i =
      ap (λ o. elim x.param [ None ↦ o | Some k ↦ elim (eqb k j) [ true ↦ Some i | false ↦ o ] ]) (index_alike xs ys a.1 j (i + 1))
      ∙ ap (λ p. elim p [ None ↦ root_index ys j (i + 1) | Some k ↦ elim (eqb k j) [ true ↦ Some i | false ↦ root_index ys j (i + 1) ] ]) (same_param x y a.0)
    where
      same_param : (x y : Root) → AlikeRoot R x y → x.param ≡ y.param
      same_param _ _ (alike_root t u p vs b r) = refl

  pub before_alike : (rs rs' : List Root) → OneByOne (AlikeRoot R) rs rs' → before_pipes rs ≡ before_pipes rs'
  before_alike [] [] a = refl
  before_alike [] (y ∷ ys) a = absurd a
  before_alike (x ∷ xs) [] a = absurd a
  before_alike (x ∷ xs) (y ∷ ys) a = before_one x y a.0 (before_pipes xs) (before_pipes ys) (before_alike xs ys a.1)
    where
      before_one : (x y : Root) → AlikeRoot R x y → (m n : ℕ) → m ≡ n → ◌≡◌ {A = ℕ} (elim x.is_pipe [ true ↦ 0 | false ↦ suc m ]) (elim y.is_pipe [ true ↦ 0 | false ↦ suc n ])
      before_one _ _ (alike_root t u p vs true r) m n e = refl
      before_one _ _ (alike_root t u p vs false r) m n e = ap suc e

  pub root_typed : (rs rs' : List Root) → OneByOne (AlikeRoot R) rs rs' → (j : ℕ) → j < length rs → R (root_type (slice_get rs j)) (root_type (slice_get rs' j))
  root_typed [] [] a j h = absurd (omega (arith, h))
  root_typed [] (y ∷ ys) a j h = absurd a
  root_typed (x ∷ xs) [] a j h = absurd a
  root_typed (x ∷ xs) (y ∷ ys) a zero h = typed_one x y a.0
    where
      typed_one : (x y : Root) → AlikeRoot R x y → R x.of y.of
      typed_one _ _ (alike_root t u p vs b r) = r
  root_typed (x ∷ xs) (y ∷ ys) a (suc j) h = root_typed xs ys a.1 j (omega (arith, h))

  pub drop_alike : (n : ℕ) (rs rs' : List Root) → OneByOne (AlikeRoot R) rs rs' → OneByOne (AlikeRoot R) (drop n rs) (drop n rs')
  drop_alike zero rs rs' a = a
  drop_alike (suc n) [] [] a = tt
  drop_alike (suc n) [] (y ∷ ys) a = absurd a
  drop_alike (suc n) (x ∷ xs) [] a = absurd a
  drop_alike (suc n) (x ∷ xs) (y ∷ ys) a = drop_alike n xs ys a.1
