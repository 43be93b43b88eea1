-- The sides of legal interfaces are laid out as the laws need it.
use Rattle.std.proofs.Common.{◌≡◌, ℕ, ◌+◌, zero, suc, ℤ, Bool, true, false, ◌&&◌, List, [], ◌∷◌, ◌++◌, Option, Some, None, refl, ap, sym, ◌∙◌, inl, inr, ◌⊎◌, subst, drop}
use Rattle.std.specs.Prelude.{map, not, eqb, filter, cond, ◌==◌, ◌||◌}
use Rattle.std.specs.List.{AllByRecursion, list_all, list_any, enumerate_from, slice_get}
use Rattle.std.proofs.lemmas.Bool.{and_parts, or_cases, not-true, eq-eqb, both_ways}
use Rattle.std.proofs.lemmas.Option.{same_Some}
use Rattle.nd_types.specs.declared.types.TypeDef.{TypeDef}
use Rattle.nd_types.specs.declared.types.TypeId.{TypeId}
use Rattle.nd_types.specs.declared.types.Field.{Field}
use Rattle.nd_types.specs.declared.types.Arm.{Arm}
use Rattle.nd_types.specs.declared.types.Attr.{Attr}
use Rattle.nd_types.specs.declared.types.Attr.TheVariants.{Size, Max, First, Length, Last, Switch}
use Rattle.nd_types.specs.declared.types.AttrVar.{AttrVar}
use Rattle.nd_types.specs.declared.types.Param.{Param}
use Rattle.nd_types.specs.declared.types.Side.{Side}
use Rattle.nd_types.specs.declared.types.Side.TheVariants as side
use Rattle.nd_types.specs.declared.types.Operation.{Operation}
use Rattle.nd_types.specs.declared.types.TypeDef.TheVariants as def
use Rattle.nd_types.specs.declared.types.Class.TheVariants.{Ref, Unique, Full}
use Rattle.nd_types.specs.declared.TheConstants.{NESTING_LIMIT, HANDLE}
use Rattle.std.specs.Ordering.{int_eq}
use Rattle.nd_types.specs.declared.interface.Interface.{Interface}
use Rattle.nd_types.specs.Table.{Table, type_at, selected, labelled, or_else}
use Rattle.nd_types.specs.Layout.{hoists, hoists_by, hoists_within, last_hoists, parts, arm_type, arm_types, default_type}
use Rattle.nd_types.specs.Legal.{IsLegal, only_last_hoists, has_none_within, is_barred_in_pipes, fits_pipes, is_switched}
use Rattle.nd_types.specs.Fields.{FieldAt, fields_at, attr_rank, all_fields, has_attr, has_size, has_range_attr, subject_type, param_fields}
use Rattle.nd_types.specs.Kinds.{pointee, pointee_by, is_conformant_array, is_conformant_text, is_varying_array, is_nonencapsulated}
use Rattle.nd_types.specs.Roots.{Root, roots_of, params_from, root_of, root_by, pipe_of, pipe_by, result_root, travels, pipe_referent}
use Rattle.nd_types.proofs.LayoutLaws.{hoists-legal}
use Rattle.nd_types.proofs.LegalLaws.{passes_at}
use Rattle.nd_value.specs.Setting.{Setting, Among, root_list}
use Rattle.nd_value.specs.Nodes.{selected_types}
use Rattle.nd_value.specs.Deferral.{before_pipes}
use Rattle.nd_value.specs.Fitting.{setting_of}
use Rattle.nd_value.proofs.NodeFacts.{all_of_list}
use Rattle.nd_value.proofs.Apart.{all_append, all_left, all_right, all_weaker}
use Rattle.nd_grammar.specs.LegalSide.{IsLegalSide}
use Rattle.nd_grammar.proofs.next.HoistedMaxes.{OnlyLast, HoistsLast}
use Rattle.nd_grammar.proofs.next.NextStream.{IsPipeRoot, IsLaidOut, FitsPipes}

only_last : (table : Table) (ms : List Field) → only_last_hoists table ms ≡ true → OnlyLast (hoists table) (map (λ f. f.of.0) ms)
only_last table [] h = tt
only_last table (f ∷ []) h = tt
only_last table (f ∷ g ∷ ms) h = let (a, b) = and_parts _ _ h in (not-true _ a, only_last table (g ∷ ms) b)

-- what all arms have, the selected one has
abbrev chosen : Bool → Arm → Option Arm → Option Arm
chosen true a o = Some a
chosen false a o = o

chosen_is : (b : Bool) (a : Arm) (o : Option Arm) → elim b [ true ↦ Some a | false ↦ o ] ≡ chosen b a o
chosen_is true a o = refl
chosen_is false a o = refl

in_arms : (P : ℕ → Type 0) (arms : List Arm) (v : ℤ) (a : Arm) → labelled arms v ≡ Some a → AllByRecursion P (arm_types arms) → AllByRecursion P (arm_type a)
in_arms P [] v a e h = cc
in_arms P (b ∷ arms) v a e h =
    go (int_eq b.label v) (sym (chosen_is (int_eq b.label v) b (labelled arms v)) ∙ e) (λ f. in_arms P arms v a f (all_right P (arm_type b) (arm_types arms) h))
  where
    go : (t : Bool) → chosen t b (labelled arms v) ≡ Some a → (labelled arms v ≡ Some a → AllByRecursion P (arm_type a)) → AllByRecursion P (arm_type a)
    go true e r = subst (λ u. AllByRecursion P (arm_type u)) (same_Some _ _ e) (all_left P (arm_type b) (arm_types arms) h)
    go false e r = r e

pub in_selected : (P : ℕ → Type 0) (arms : List Arm) (default : Option Arm) (v : ℤ) → AllByRecursion P (arm_types arms ++ default_type default)
    → AllByRecursion P (selected_types (selected arms default v))
in_selected P arms default v h = go (labelled arms v) refl default (all_right P (arm_types arms) (default_type default) h)
  where
    go : (o : Option Arm) → labelled arms v ≡ o → (d : Option Arm) → AllByRecursion P (default_type d) → AllByRecursion P (selected_types (or_else o d))
    go (Some a) e d k = in_arms P arms v a e (all_left P (arm_types arms) (default_type default) h)
    go None e (Some a) k = k
    go None e None k = tt

-- what holds no barred type does not hoist
none_last : (h : ℕ → Bool) (P : ℕ → Type 0) → ((t : ℕ) → P t → h t ≡ false) → (ms : List Field) → AllByRecursion P (map (λ f. f.of.0) ms) → last_hoists h ms ≡ false
none_last h P f [] a = refl
none_last h P f (m ∷ []) a = f m.of.0 a.0
none_last h P f (m ∷ n ∷ ms) a = none_last h P f (n ∷ ms) a.1

none_by : (h : ℕ → Bool) (P : ℕ → Type 0) → ((t : ℕ) → P t → h t ≡ false) → (d : Option TypeDef) → is_barred_in_pipes d ≡ false → AllByRecursion P (parts d) → hoists_by h d ≡ false
none_by h P f (Some (def.Struct ms)) b a = none_last h P f ms a
none_by h P f (Some (def.Array e None v)) b a = cc
none_by h P f (Some (def.Array e (Some n) v)) b a = refl
none_by h P f (Some (def.Text e n)) b a = cc
none_by h P f (Some (def.Prim p)) b a = refl
none_by h P f (Some (def.Enum vs)) b a = refl
none_by h P f (Some (def.Union tag enc arms default)) b a = refl
none_by h P f (Some (def.Pointer k to)) b a = refl
none_by h P f (Some def.Context) b a = refl
none_by h P f (Some (def.Pipe e)) b a = refl
none_by h P f None b a = refl

none_hoists : (table : Table) (n : ℕ) (t : ℕ) → has_none_within n is_barred_in_pipes table t ≡ true → hoists_within n table t ≡ false
none_hoists table zero t h = cc
none_hoists table (suc n) t h =
    let (a, b) = and_parts _ _ h in
    none_by (hoists_within n table) (λ u. has_none_within n is_barred_in_pipes table u ≡ true) (none_hoists table n) (type_at table t) (not-true _ a) (all_of_list _ _ b)

limit_none : (table : Table) (t : ℕ) → fits_pipes table t ≡ true → hoists table t ≡ false
unfolding hoists fits_pipes
limit_none table t h = none_hoists table NESTING_LIMIT t h

limit_fits : (table : Table) (t : ℕ) → fits_pipes table t ≡ true → FitsPipes table t
unfolding fits_pipes
limit_fits table t h = (NESTING_LIMIT, h)

module _ (table : Table) (operations : List Operation) (legal : IsLegal table operations) where
  hoists_last : HoistsLast table
  hoists_last = record {
    unfolds = hoists-legal table operations legal;
    members = λ t ms e. only_last table ms (passes_at _ table t (def.Struct ms) legal.hoisting_members e);
    element = λ t x b v e. (
        let h = passes_at _ table t (def.Array x b v) legal.array_elements e in
        let (a, c) = and_parts _ _ h in
        not-true _ a);
    piped = λ t x e. limit_none table x.0 (passes_at _ table t (def.Pipe x) legal.pipe_elements e);
    arms = λ t tag enc arms default v e.
        in_selected (λ u. hoists table u ≡ false) arms default v
        (all_weaker _ _ (λ u h. not-true _ h) (arm_types arms ++ default_type default)
        (all_of_list _ _ (passes_at _ table t (def.Union tag enc arms default) legal.hoisting_arms e)));
  }

  -- a test of fields passes at each of a list
  abbrev pub AllPass : (FieldAt → Bool) → List Field → Type 0
  AllPass test fs = AllByRecursion (λ f. (p : FieldAt) × (p.field ≡ f) × (test p ≡ true)) fs

  pub test_in : (is_param : Bool) (test : FieldAt → Bool) (siblings : List Field) (i : ℕ) (fs : List Field)
      → list_all test (map (λ e. record { siblings = siblings; index = e.0; is_param = is_param; field = e.1 }) (enumerate_from i fs)) ≡ true
      → AllPass test fs
  test_in is_param test siblings i [] h = tt
  test_in is_param test siblings i (f ∷ fs) h =
      let (a, b) = and_parts _ _ h in
      ((record { siblings = siblings; index = i; is_param = is_param; field = f }, refl, a), test_in is_param test siblings (i + 1) fs b)

  -- it passes at each parameter of each operation
  test_at : (test : FieldAt → Bool) (os : List Operation) (o : Operation) → Among os o → list_all (λ o. list_all test (fields_at true (param_fields o))) os ≡ true
      → AllPass test (param_fields o)
  test_at test [] o a h = absurd a
  test_at test (q ∷ os) o (inl e) h =
      let (x, y) = and_parts _ _ h in
      test_in true test (param_fields o) 0 (param_fields o) (subst (λ u. list_all test (fields_at true (param_fields u)) ≡ true) (sym e) x)
  test_at test (q ∷ os) o (inr a) h = let (x, y) = and_parts _ _ h in test_at test os o a y

  pub test_all : (test : FieldAt → Bool) → all_fields test table operations ≡ true → (o : Operation) → Among operations o → AllPass test (param_fields o)
  test_all test h o a = let (x, y) = and_parts _ _ h in test_at test operations o a y

  -- a field whose attributes would speak of a pipe has none
  abbrev IsBare : Field → Type 0
  IsBare f = (e : TypeId) → type_at table (pointee table f.of.0) ≡ Some (def.Pipe e) → f.vars ≡ []

  first_attr : (attr : Attr) (a : AttrVar) (rest : List AttrVar) → a.attr ≡ attr → list_any (λ v. attr_rank v.attr == attr_rank attr) (a ∷ rest) ≡ true
  first_attr attr a rest e = ap (λ u. u || list_any (λ v. attr_rank v.attr == attr_rank attr) rest) (eq-eqb (attr_rank a.attr) (attr_rank attr) (ap attr_rank e))

  -- the tests of one field with attributes, at a pipe
  module _ (f : Field) (e : TypeId) (s : subject_type table f ≡ Some (def.Pipe e)) where
    no_array : is_conformant_array (subject_type table f) ≡ false
    no_array = ap is_conformant_array s

    no_text : is_conformant_text (subject_type table f) ≡ false
    no_text = ap is_conformant_text s

    no_varying : is_varying_array (subject_type table f) ≡ false
    no_varying = ap is_varying_array s

    sized_false : (not (has_size f) || (is_conformant_array (subject_type table f) || is_conformant_text (subject_type table f))) ≡ true → has_size f ≡ false
    sized_false h = go (or_cases _ _ h)
      where
        go : (not (has_size f) ≡ true) ⊎ ((is_conformant_array (subject_type table f) || is_conformant_text (subject_type table f)) ≡ true) → has_size f ≡ false
        go (inl a) = not-true _ a
        go (inr a) = go' (or_cases _ _ a)
          where
            go' : (is_conformant_array (subject_type table f) ≡ true) ⊎ (is_conformant_text (subject_type table f) ≡ true) → has_size f ≡ false
            go' (inl b) = let x = no_array in cc
            go' (inr b) = let x = no_text in cc

    ranged_false : (not (has_range_attr f) || is_varying_array (subject_type table f)) ≡ true → has_range_attr f ≡ false
    ranged_false h = go (or_cases _ _ h)
      where
        go : (not (has_range_attr f) ≡ true) ⊎ (is_varying_array (subject_type table f) ≡ true) → has_range_attr f ≡ false
        go (inl a) = not-true _ a
        go (inr a) = let x = no_varying in cc

    switched_false : (not (has_attr Switch f) || is_switched table f.of.0) ≡ true → has_attr Switch f ≡ false
    switched_false h = go (or_cases _ _ h)
      where
        go : (not (has_attr Switch f) ≡ true) ⊎ (is_switched table f.of.0 ≡ true) → has_attr Switch f ≡ false
        go (inl a) = not-true _ a
        go (inr a) = let x : is_switched table f.of.0 ≡ false = ap is_nonencapsulated s in cc

    either_false : (x y : Bool) → (x || y) ≡ false → (x ≡ false) × (y ≡ false)
    either_false true y h = cc
    either_false false y h = (refl, h)

    no_attr : has_size f ≡ false → has_range_attr f ≡ false → has_attr Switch f ≡ false → (vs : List AttrVar) → f.vars ≡ vs → vs ≡ []
    no_attr a b c [] e = refl
    no_attr a b c (v ∷ rest) e = absurd (go v.attr refl)
      where
        has : (attr : Attr) → v.attr ≡ attr → has_attr attr f ≡ true
        has attr h = ap (λ u. list_any (λ w. attr_rank w.attr == attr_rank attr) u) e ∙ first_attr attr v rest h

        go : (attr : Attr) → v.attr ≡ attr → ⊥
        go Size h = both_ways (has_attr Size f) (either_false (has_attr Size f) (has_attr Max f) a).0 (has Size h)
        go Max h = both_ways (has_attr Max f) (either_false (has_attr Size f) (has_attr Max f) a).1 (has Max h)
        go First h = both_ways (has_attr First f) (either_false (has_attr First f) (has_attr Length f || has_attr Last f) b).0 (has First h)
        go Length h =
            both_ways (has_attr Length f) (either_false (has_attr Length f) (has_attr Last f) (either_false (has_attr First f) (has_attr Length f || has_attr Last f) b).1).0 (has Length h)
        go Last h =
            both_ways (has_attr Last f) (either_false (has_attr Length f) (has_attr Last f) (either_false (has_attr First f) (has_attr Length f || has_attr Last f) b).1).1 (has Last h)
        go Switch h = both_ways (has_attr Switch f) c (has Switch h)

  bare_fields : (fs : List Field)
      → AllPass (λ p. not (has_size p.field) || (is_conformant_array (subject_type table p.field) || is_conformant_text (subject_type table p.field))) fs
      → AllPass (λ p. not (has_range_attr p.field) || is_varying_array (subject_type table p.field)) fs
      → AllPass (λ p. not (has_attr Switch p.field) || is_switched table p.field.of.0) fs
      → AllByRecursion IsBare fs
  bare_fields [] a b c = tt
  bare_fields (f ∷ fs) a b c =
      let (p, ep, hp) = a.0 in
      let (q, eq, hq) = b.0 in
      let (r, er, hr) = c.0 in
      let A = subst (λ u. (not (has_size u) || (is_conformant_array (subject_type table u) || is_conformant_text (subject_type table u))) ≡ true) ep hp in
      let B = subst (λ u. (not (has_range_attr u) || is_varying_array (subject_type table u)) ≡ true) eq hq in
      let C = subst (λ u. (not (has_attr Switch u) || is_switched table u.of.0) ≡ true) er hr in (
        (λ e s. no_attr f e s (sized_false f e s A) (ranged_false f e s B) (switched_false f e s C) f.vars refl),
        bare_fields fs a.1 b.1 c.1,
      )

  pub bare_params : (o : Operation) → Among operations o → AllByRecursion IsBare (param_fields o)
  bare_params o a = bare_fields (param_fields o) (test_all _ legal.sized o a) (test_all _ legal.varying o a) (test_all _ legal.switches o a)

-- what is a pipe among the roots of parameters
module _ (table : Table) where
  abbrev Bare : Field → Type 0
  Bare f = (e : TypeId) → type_at table (pointee table f.of.0) ≡ Some (def.Pipe e) → f.vars ≡ []

  abbrev PipeIsBare : Root → Type 0
  PipeIsBare r = r.is_pipe ≡ true → IsPipeRoot table r

  -- a type that is a pipe, or a reference pointer to one
  pub pipe_is : (t u : ℕ) (d : Option TypeDef) → type_at table t ≡ d → pipe_by table t d ≡ Some u
      → (e : TypeId) × (type_at table u ≡ Some (def.Pipe e)) × (type_at table (pointee_by t d) ≡ Some (def.Pipe e))
  pipe_is t u (Some (def.Pipe e)) h f =
      let same : t ≡ u = same_Some _ _ f in
      (e, ap (type_at table) (sym same) ∙ h, h)
  pipe_is t u (Some (def.Pointer Ref to)) h f = go (type_at table to.0) refl f
    where
      go : (d : Option TypeDef) → type_at table to.0 ≡ d → pipe_referent to.0 d ≡ Some u
          → (e : TypeId) × (type_at table u ≡ Some (def.Pipe e)) × (type_at table to.0 ≡ Some (def.Pipe e))
      go (Some (def.Pipe e)) h f =
          let same : to.0 ≡ u = same_Some _ _ f in
          (e, ap (type_at table) (sym same) ∙ h, h)
      go None h f = cc
      go (Some _) h f = cc
  pipe_is t u (Some (def.Pointer Unique to)) h f = cc
  pipe_is t u (Some (def.Pointer Full to)) h f = cc
  pipe_is t u None h f = cc
  pipe_is t u (Some _) h f = cc

  root_bare : (i : ℕ) (p : Param) → Bare p.field → (o : Option ℕ) → pipe_of table p.field.of.0 ≡ o → PipeIsBare (root_by i p o)
  root_bare i p b None e h = cc
  root_bare i p b (Some u) e h =
      let (x, a, c) = pipe_is p.field.of.0 u (type_at table p.field.of.0) refl e in
      record { elem = x; type_is = a; no_vars = b x c }

  bare_roots : (s : Side) (i : ℕ) (ps : List Param) → AllByRecursion Bare (map (λ p. p.field) ps) → AllByRecursion PipeIsBare (params_from table s i ps)
  bare_roots s i [] a = tt
  bare_roots s i (p ∷ ps) a = go (travels s p.way && not (eqb p.field.of.0 HANDLE.0)) (bare_roots s (i + 1) ps a.1)
    where
      go : (b : Bool) → AllByRecursion PipeIsBare (params_from table s (i + 1) ps)
          → AllByRecursion PipeIsBare (elim b [ true ↦ root_of table i p ∷ params_from table s (i + 1) ps | false ↦ params_from table s (i + 1) ps ])
      go true r = (root_bare i p a.0 (pipe_of table p.field.of.0) refl, r)
      go false r = r

  kept_pipes : (rs : List Root) → AllByRecursion PipeIsBare rs
      → AllByRecursion (λ r. r.is_pipe ≡ true) (filter (λ r. r.is_pipe) rs) × AllByRecursion (IsPipeRoot table) (filter (λ r. r.is_pipe) rs)
  kept_pipes [] a = (tt, tt)
  kept_pipes (r ∷ rs) a = go r.is_pipe refl (kept_pipes rs a.1)
    where
      go : (b : Bool) → r.is_pipe ≡ b → AllByRecursion (λ q. q.is_pipe ≡ true) (filter (λ q. q.is_pipe) rs) × AllByRecursion (IsPipeRoot table) (filter (λ q. q.is_pipe) rs)
          → AllByRecursion (λ q. q.is_pipe ≡ true) (cond b (r ∷ filter (λ q. q.is_pipe) rs) (filter (λ q. q.is_pipe) rs))
          × AllByRecursion (IsPipeRoot table) (cond b (r ∷ filter (λ q. q.is_pipe) rs) (filter (λ q. q.is_pipe) rs))
      go true e (x, y) = ((e, x), (a.0 e, y))
      go false e z = z

no_pipes : (rs : List Root) → AllByRecursion (λ r. r.is_pipe ≡ false) (filter (λ r. not r.is_pipe) rs)
no_pipes [] = tt
no_pipes (r ∷ rs) = go r.is_pipe refl (no_pipes rs)
  where
    go : (b : Bool) → r.is_pipe ≡ b → AllByRecursion (λ q. q.is_pipe ≡ false) (filter (λ q. not q.is_pipe) rs)
        → AllByRecursion (λ q. q.is_pipe ≡ false) (cond (not b) (r ∷ filter (λ q. not q.is_pipe) rs) (filter (λ q. not q.is_pipe) rs))
    go true e x = x
    go false e x = (e, x)

no_result_pipe : (s : Side) (t : Option TypeId) → AllByRecursion (λ r. r.is_pipe ≡ false) (result_root s t)
no_result_pipe side.Out (Some t) = (refl, tt)
no_result_pipe side.Out None = tt
no_result_pipe side.In (Some t) = tt
no_result_pipe side.In None = tt

-- where pipes come last, those after the first are the pipes
abbrev count_from : Bool → ℕ → ℕ
count_from b n = elim b [ true ↦ 0 | false ↦ suc n ]

before_only : (r : Root) (rs : List Root) → r.is_pipe ≡ false → before_pipes (r ∷ rs) ≡ suc (before_pipes rs)
before_only r rs e = go r.is_pipe e
  where
    go : (b : Bool) → b ≡ false → count_from b (before_pipes rs) ≡ suc (before_pipes rs)
    go false e = refl
    go true e = cc

pipes_behind : (xs ys : List Root) → AllByRecursion (λ r. r.is_pipe ≡ false) xs → AllByRecursion (λ r. r.is_pipe ≡ true) ys
    → drop (before_pipes (xs ++ ys)) (xs ++ ys) ≡ ys
pipes_behind [] [] a b = refl
pipes_behind [] (y ∷ ys) a b = ap (λ n. drop n (y ∷ ys)) (none_before y.is_pipe b.0)
  where
    none_before : (q : Bool) → q ≡ true → count_from q (before_pipes ys) ≡ 0
    none_before true e = refl
    none_before false e = cc
pipes_behind (x ∷ xs) ys a b = ap (λ n. drop n (x ∷ (xs ++ ys))) (before_only x (xs ++ ys) a.0) ∙ pipes_behind xs ys a.1 b

module _ (w : Setting) (side_of : IsLegalSide w) where
  abbrev ps : List Root
  ps = params_from w.table w.side 0 w.op.params

  abbrev first : List Root
  first = filter (λ r. not r.is_pipe) ps ++ result_root w.side w.op.result

  abbrev last : List Root
  last = filter (λ r. r.is_pipe) ps

  roots_parts : root_list w ≡ first ++ last
  unfolding roots_of
  roots_parts = refl

  pub laid_out : IsLaidOut w
  laid_out =
      let bare : AllByRecursion (Bare w.table) (map (λ p. p.field) w.op.params) = bare_params w.table side_of.operations side_of.legal w.op side_of.operation in
      let (x, y) = kept_pipes w.table ps (bare_roots w.table w.side 0 w.op.params bare) in
      let z : AllByRecursion (λ r. r.is_pipe ≡ false) first = all_append (λ r. r.is_pipe ≡ false) _ _ (no_pipes ps) (no_result_pipe w.side w.op.result) in
      record {
        hoisting = hoists_last w.table side_of.operations side_of.legal;
        elements = λ t x e. limit_fits w.table x.0 (passes_at _ w.table t (def.Pipe x) side_of.legal.pipe_elements e);
        pipes =
            subst (λ u. AllByRecursion (IsPipeRoot w.table) (drop (before_pipes u) u)) (sym roots_parts)
            (subst (AllByRecursion (IsPipeRoot w.table)) (sym (pipes_behind first last z x)) y);
      }

pub operation_there : (os : List Operation) (n : ℕ) (o : Operation) → slice_get os n ≡ Some o → Among os o
operation_there [] n o e = cc
operation_there (x ∷ os) zero o e = inl (sym (same_Some _ _ e))
operation_there (x ∷ os) (suc n) o e = inr (operation_there os n o e)

-- a side of an operation of an interface is legal
pub interface_side : (i : Interface) (n : ℕ) (o : Operation) (s : Side) → slice_get i.operations n ≡ Some o → IsLegalSide (setting_of i o s)
interface_side i n o s e = record { operations = i.operations; legal = i.legal; operation = operation_there i.operations n o e }
