-- The attributes of roots: they are those of parameters, of which at most one speaks of an item.
-- `r` is a root, `p` a parameter, `ps` are parameters, `i` is the place of one, `f` a field, `fs` are fields.
use Rattle.std.proofs.Common.{◌≡◌, ◌⊎◌, inl, inr, ◌∙◌, ℕ, zero, suc, ◌+◌, Bool, true, false, ◌&&◌, List, [], ◌∷◌, ◌++◌, map, Option, Some, None, refl, sym, ap, subst, arith}
use Rattle.std.specs.Prelude.{cond, eqb, filter, not}
use Rattle.std.specs.List.{AllByRecursion, list_all, slice_get}
use Rattle.std.proofs.lemmas.Bool.{and_parts}
use Rattle.std.proofs.lemmas.Option.{same_Some}
use Rattle.nd_lemmas.proofs.Lists.{all_at}
use Rattle.nd_types.specs.declared.types.Attr.TheVariants as attr
use Rattle.nd_types.specs.declared.types.AttrVar.{AttrVar}
use Rattle.nd_types.specs.declared.types.Field.{Field}
use Rattle.nd_types.specs.declared.types.Operation.{Operation}
use Rattle.nd_types.specs.declared.types.Param.{Param}
use Rattle.nd_types.specs.declared.types.Side.{Side}
use Rattle.nd_types.specs.declared.types.Side.TheVariants as side
use Rattle.nd_types.specs.declared.types.TypeDef.TheVariants as def
use Rattle.nd_types.specs.declared.types.TypeId.{TypeId}
use Rattle.nd_types.specs.declared.TheConstants.{HANDLE}
use Rattle.nd_types.specs.Fields.{FieldAt, all_fields, are_ordered, fields_at, has_attr, members_of}
use Rattle.nd_types.specs.Kinds.{pointee, pointee_by}
use Rattle.nd_types.specs.Legal.{IsLegal}
use Rattle.nd_types.specs.Roots.{Root, params_from, pipe_of, result_root, root_by, root_of, roots_of, travels, named_root, named_roots}
use Rattle.nd_types.specs.Table.{Table, type_at}
use Rattle.nd_types.proofs.LegalLaws.{passes_at}
use Rattle.nd_value.specs.declared.item.Home.TheVariants as home
use Rattle.nd_value.specs.declared.item.ItemKind.{ItemKind}
use Rattle.nd_value.specs.declared.item.ItemKind.TheVariants as kind
use Rattle.nd_value.specs.Setting.{Among, Setting, root_list}
use Rattle.nd_value.proofs.Apart.{all_append}
use Rattle.nd_grammar.specs.LegalSide.{IsLegalSide}
use Rattle.nd_grammar.proofs.agreements.LegalSubjects.{roots_fit}
use Rattle.nd_grammar.proofs.agreements.StreamFinds.{RootFits}
use Rattle.nd_grammar.proofs.LegalSides.{AllPass, test_all, test_in}
use Rattle.ndr_trace_value.specs.Attributes.{first_of, home_attribute, number_attribute, param_attribute, root_attribute, spoken}
use Rattle.ndr_trace_value.proofs.Attributes.{OneEach, first_is, one_each}
use Rattle.ndr_trace.proofs.FrontTests.{none_on_struct}

-- ## Roots and parameters

-- the parameter that a root is
pub record OfParam (ps : List Param) (r : Root) : Type 0 where
  pub number : ℕ
  pub param : Param
  pub param_is : r.param ≡ Some number
  pub there : slice_get ps number ≡ Some param
  pub vars : r.vars ≡ param.field.vars

-- the result is no parameter and has no attributes
abbrev IsOf : List Param → Root → Type 0
IsOf ps r = ((r.param ≡ None) × (r.vars ≡ [])) ⊎ OfParam ps r

pub mapped_there : {X Y : Type 0} (f : X → Y) (xs : List X) (n : ℕ) (x : X) → slice_get xs n ≡ Some x → slice_get (map f xs) n ≡ Some (f x)
mapped_there f [] n x e = cc
mapped_there f (y ∷ xs) zero x e = ap (λ z. Some (f z)) (same_Some _ _ e)
mapped_there f (y ∷ xs) (suc n) x e = mapped_there f xs n x e

module _ (table : Table) (s : Side) (all : List Param) where
  one_of : (i : ℕ) (p : Param) (o : Option ℕ) → slice_get all i ≡ Some p → IsOf all (root_by i p o)
  one_of i p None e = inr (record { number = i; param = p; param_is = refl; there = e; vars = refl })
  one_of i p (Some t) e = inr (record { number = i; param = p; param_is = refl; there = e; vars = refl })

  of_params : (i : ℕ) (ps : List Param) → ((k : ℕ) → slice_get ps k ≡ slice_get all (i + k)) → AllByRecursion (IsOf all) (params_from table s i ps)
  of_params i [] f = tt
  of_params i (p ∷ ps) f = go (travels s p.way && not (eqb p.field.of.0 HANDLE.0)) (of_params (i + 1) ps (λ k. f (suc k) ∙ ap (slice_get all) (one_further k)))
    where
      one_further : (k : ℕ) → i + suc k ≡ i + 1 + k
      one_further k = omega arith

      first : slice_get all i ≡ Some p
      first = ap (slice_get all) (let z : i ≡ i + 0 = omega arith in z) ∙ sym (f 0)

      go : (b : Bool) → AllByRecursion (IsOf all) (params_from table s (i + 1) ps)
          → AllByRecursion (IsOf all) (elim b [ true ↦ root_of table i p ∷ params_from table s (i + 1) ps | false ↦ params_from table s (i + 1) ps ])
      go true r = (one_of i p (pipe_of table p.field.of.0) first, r)
      go false r = r

filtered : (P : Root → Type 0) (test : Root → Bool) (rs : List Root) → AllByRecursion P rs → AllByRecursion P (filter test rs)
filtered P test [] a = tt
filtered P test (r ∷ rs) a = go (test r) (filtered P test rs a.1)
  where
    go : (b : Bool) → AllByRecursion P (filter test rs) → AllByRecursion P (cond b (r ∷ filter test rs) (filter test rs))
    go true x = (a.0, x)
    go false x = x

of_result : (ps : List Param) (s : Side) (t : Option TypeId) → AllByRecursion (IsOf ps) (result_root s t)
of_result ps side.Out (Some t) = (inl (refl, refl), tt)
of_result ps side.Out None = tt
of_result ps side.In (Some t) = tt
of_result ps side.In None = tt

roots_are : (table : Table) (s : Side) (o : Operation) → AllByRecursion (IsOf o.params) (roots_of table s o)
unfolding roots_of
roots_are table s o =
    let ps : List Root = params_from table s 0 o.params in
    let all : AllByRecursion (IsOf o.params) ps = of_params table s o.params 0 o.params (λ k. ap (slice_get o.params) (let z : k ≡ 0 + k = omega arith in z)) in
    all_append (IsOf o.params) (filter (λ r. not r.is_pipe) ps ++ result_root s o.result) (filter (λ r. r.is_pipe) ps)
    (all_append (IsOf o.params) (filter (λ r. not r.is_pipe) ps) (result_root s o.result) (filtered (IsOf o.params) (λ r. not r.is_pipe) ps all)
    (of_result o.params s o.result))
    (filtered (IsOf o.params) (λ r. r.is_pipe) ps all)

-- ## One attribute for each item

abbrev ordered : FieldAt → Bool
ordered p = are_ordered p.field.vars

abbrev one_size : FieldAt → Bool
one_size p = not (has_attr attr.Size p.field && has_attr attr.Max p.field)

abbrev one_length : FieldAt → Bool
one_length p = not (has_attr attr.Length p.field && has_attr attr.Last p.field)

module _ (table : Table) (operations : List Operation) (legal : IsLegal table operations) where
  fields_one : (fs : List Field) → AllPass table operations legal ordered fs → AllPass table operations legal one_size fs → AllPass table operations legal one_length fs
      → AllByRecursion (λ (f : Field). OneEach f.vars) fs
  fields_one [] a b c = tt
  fields_one (f ∷ fs) a b c =
      let (p, ep, hp) = a.0 in
      let (q, eq, hq) = b.0 in
      let (r, er, hr) = c.0 in
      let A = subst (λ (u : Field). are_ordered u.vars ≡ true) ep hp in
      let B = subst (λ (u : Field). not (has_attr attr.Size u && has_attr attr.Max u) ≡ true) eq hq in
      let C = subst (λ (u : Field). not (has_attr attr.Length u && has_attr attr.Last u) ≡ true) er hr in
      (one_each f A B C, fields_one fs a.1 b.1 c.1)

  struct_pass : (test : FieldAt → Bool) → all_fields test table operations ≡ true → (t : ℕ) (ms : List Field) → type_at table t ≡ Some (def.Struct ms)
      → AllPass table operations legal test ms
  struct_pass test h t ms e =
      let (x, y) = and_parts _ _ h in
      test_in table operations legal false test ms 0 ms (passes_at (λ d. list_all test (fields_at false (members_of d))) table t (def.Struct ms) x e)

  -- the attributes of the members of a struct
  pub members_one : (t : ℕ) (ms : List Field) → type_at table t ≡ Some (def.Struct ms) → AllByRecursion (λ (f : Field). OneEach f.vars) ms
  members_one t ms e =
      fields_one ms (struct_pass ordered legal.ordered t ms e) (struct_pass one_size legal.one_size t ms e) (struct_pass one_length legal.one_length t ms e)

  params_one : (o : Operation) → Among operations o → AllByRecursion (λ (f : Field). OneEach f.vars) (map (λ (p : Param). p.field) o.params)
  params_one o a =
      fields_one (map (λ (p : Param). p.field) o.params) (test_all table operations legal ordered legal.ordered o a) (test_all table operations legal one_size legal.one_size o a)
      (test_all table operations legal one_length legal.one_length o a)

-- ## The attribute of a root that speaks of an item

-- a root's attribute is found by the item that it speaks of
pub attribute_found : (w : Setting) → IsLegalSide w → (at : ℕ) (r : Root) → slice_get (root_list w) at ≡ Some r → (by : AttrVar) → Among r.vars by → (k : ItemKind) → spoken by.attr ≡ k
    → home_attribute w.op k (named_roots w.table w.side w.op) (home.Root at) ≡ Some by
attribute_found w legal at r there by among k speaks = go (all_at (IsOf w.op.params) (root_list w) at r (roots_are w.table w.side w.op) there)
  where
    go : IsOf w.op.params r → home_attribute w.op k (named_roots w.table w.side w.op) (home.Root at) ≡ Some by
    go (inl none) = absurd (subst (λ vs. Among vs by) none.1 among)
    go (inr p) =
        let one : OneEach p.param.field.vars =
        all_at (λ (f : Field). OneEach f.vars) (map (λ (x : Param). x.field) w.op.params) p.number p.param.field
        (params_one w.table legal.operations legal.legal w.op legal.operation) (mapped_there (λ (x : Param). x.field) w.op.params p.number p.param p.there) in
        ap (root_attribute w.op k) (mapped_there (named_root w.op) (root_list w) at r there) ∙ ap (number_attribute w.op k) p.param_is ∙ ap (param_attribute k) p.there
        ∙ first_is k p.param.field.vars by one (subst (λ vs. Among vs by) p.vars among) speaks

-- a root that is a struct has no attribute on a maximum count
pub no_attribute : (w : Setting) → IsLegalSide w → (at : ℕ) (r : Root) → slice_get (root_list w) at ≡ Some r → (ms : List Field) → type_at w.table r.of ≡ Some (def.Struct ms)
    → home_attribute w.op kind.Max (named_roots w.table w.side w.op) (home.Root at) ≡ None
no_attribute w legal at r there ms e = go (all_at (IsOf w.op.params) (root_list w) at r (roots_are w.table w.side w.op) there)
  where
    found : root_attribute w.op kind.Max (slice_get (named_roots w.table w.side w.op) at) ≡ number_attribute w.op kind.Max r.param
    found = ap (root_attribute w.op kind.Max) (mapped_there (named_root w.op) (root_list w) at r there)

    fits : RootFits w.table r
    fits = all_at (RootFits w.table) (root_list w) at r (roots_fit w legal) there

    bare : first_of kind.Max r.vars ≡ None
    bare = none_on_struct (type_at w.table (pointee w.table r.of)) ms (ap (λ d. type_at w.table (pointee_by r.of d)) e ∙ e) r.vars fits

    go : IsOf w.op.params r → home_attribute w.op kind.Max (named_roots w.table w.side w.op) (home.Root at) ≡ None
    go (inl none) = found ∙ ap (number_attribute w.op kind.Max) none.0
    go (inr p) =
        found ∙ ap (number_attribute w.op kind.Max) p.param_is ∙ ap (param_attribute kind.Max) p.there ∙ ap (first_of kind.Max) (sym p.vars) ∙ bare
