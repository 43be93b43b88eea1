-- In a legal interface attributes stand only on fields whose subjects have what they speak of.
use Rattle.std.proofs.Common.{◌≡◌, ℕ, ◌+◌, Bool, true, false, ◌&&◌, List, [], ◌∷◌, ◌++◌, Option, Some, None, refl, ap, sym, inl, inr, subst}
use Rattle.std.specs.Prelude.{map, not, eqb, filter, cond, ◌==◌, ◌||◌}
use Rattle.std.specs.List.{AllByRecursion, list_all, list_any}
use Rattle.std.proofs.lemmas.Bool.{and_parts, eq-eqb, or_left as first_or, or_right as second_or}
use Rattle.nd_types.specs.declared.types.TypeId.{TypeId}
use Rattle.nd_types.specs.declared.types.Field.{Field}
use Rattle.nd_types.specs.declared.types.Attr.{Attr}
use Rattle.nd_types.specs.declared.types.Attr.TheVariants.{Size, Max, First, Length, Last, Switch}
use Rattle.nd_types.specs.declared.types.AttrVar.{AttrVar}
use Rattle.nd_types.specs.declared.types.Param.{Param}
use Rattle.nd_types.specs.declared.types.Side.{Side}
use Rattle.nd_types.specs.declared.types.Side.TheVariants as side
use Rattle.nd_types.specs.declared.types.Operation.{Operation}
use Rattle.nd_types.specs.declared.types.TypeDef.TheVariants as def
use Rattle.nd_types.specs.declared.TheConstants.{HANDLE}
use Rattle.nd_types.specs.Table.{Table, type_at}
use Rattle.nd_types.specs.Legal.{IsLegal, is_switched}
use Rattle.nd_types.specs.Fields.{FieldAt, attr_rank, has_attr, has_size, has_range_attr, subject_type, fields_at, members_of, all_fields}
use Rattle.nd_types.specs.Kinds.{pointee, is_conformant_array, is_conformant_text, is_varying_array}
use Rattle.nd_types.specs.Roots.{Root, roots_of, params_from, root_of, root_by, pipe_of, result_root, travels}
use Rattle.nd_types.proofs.LegalLaws.{passes_at}
use Rattle.nd_value.specs.Setting.{Setting, Among, root_list}
use Rattle.nd_value.proofs.Apart.{all_append}
use Rattle.nd_grammar.specs.LegalSide.{IsLegalSide}
use Rattle.nd_grammar.proofs.LegalSides.{AllPass, test_in, test_all, bare_params, pipe_is}
use Rattle.nd_grammar.proofs.agreements.TestsFind.{AttrFits, HasSubjects}
use Rattle.nd_grammar.proofs.agreements.StreamFinds.{RootFits}

implied : (a b : Bool) → (not a || b) ≡ true → a ≡ true → b ≡ true
implied true b h e = h
implied false b h e = cc

-- an attribute that is there
has_of : (vs : List AttrVar) (v : AttrVar) → Among vs v → list_any (λ u. attr_rank u.attr == attr_rank v.attr) vs ≡ true
has_of [] v m = absurd m
has_of (u ∷ vs) v (inl e) = first_or _ _ (eq-eqb (attr_rank u.attr) (attr_rank v.attr) (ap (λ x. attr_rank x.attr) (sym e)))
has_of (u ∷ vs) v (inr m) = second_or _ _ (has_of vs v m)

members_all : {X : Type 0} (P : X → Type 0) (xs : List X) → ((x : X) → Among xs x → P x) → AllByRecursion P xs
members_all P [] f = tt
members_all P (x ∷ xs) f = (f x (inl refl), members_all P xs (λ y m. f y (inr m)))

module _ (table : Table) where
  -- what a field's attributes speak of is in its subject's type
  abbrev pub FieldFits : Field → Type 0
  FieldFits f = AllByRecursion (λ (v : AttrVar). AttrFits v.attr (type_at table (pointee table f.of.0))) f.vars

  abbrev sized : FieldAt → Bool
  sized p = not (has_size p.field) || (is_conformant_array (subject_type table p.field) || is_conformant_text (subject_type table p.field))

  abbrev ranged : FieldAt → Bool
  ranged p = not (has_range_attr p.field) || is_varying_array (subject_type table p.field)

  abbrev switched : FieldAt → Bool
  switched p = not (has_attr Switch p.field) || is_switched table p.field.of.0

  by_attr : (f : Field) (a : Attr) → has_attr a f ≡ true
      → (not (has_size f) || (is_conformant_array (subject_type table f) || is_conformant_text (subject_type table f))) ≡ true
      → (not (has_range_attr f) || is_varying_array (subject_type table f)) ≡ true → (not (has_attr Switch f) || is_switched table f.of.0) ≡ true
      → AttrFits a (type_at table (pointee table f.of.0))
  by_attr f Size e x y z = implied _ _ x (first_or (has_attr Size f) (has_attr Max f) e)
  by_attr f Max e x y z = implied _ _ x (second_or (has_attr Size f) (has_attr Max f) e)
  by_attr f First e x y z = implied _ _ y (first_or (has_attr First f) (has_attr Length f || has_attr Last f) e)
  by_attr f Length e x y z = implied _ _ y (second_or (has_attr First f) (has_attr Length f || has_attr Last f) (first_or (has_attr Length f) (has_attr Last f) e))
  by_attr f Last e x y z = implied _ _ y (second_or (has_attr First f) (has_attr Length f || has_attr Last f) (second_or (has_attr Length f) (has_attr Last f) e))
  by_attr f Switch e x y z = implied _ _ z e

  fields_fit : (operations : List Operation) (legal : IsLegal table operations) (fs : List Field) → AllPass table operations legal sized fs → AllPass table operations legal ranged fs
      → AllPass table operations legal switched fs → AllByRecursion FieldFits fs
  fields_fit operations legal [] a b c = tt
  fields_fit operations legal (f ∷ fs) a b c =
      let (p, ep, hp) = a.0 in
      let (q, eq, hq) = b.0 in
      let (r, er, hr) = c.0 in
      let A = subst (λ u. (not (has_size u) || (is_conformant_array (subject_type table u) || is_conformant_text (subject_type table u))) ≡ true) ep hp in
      let B = subst (λ u. (not (has_range_attr u) || is_varying_array (subject_type table u)) ≡ true) eq hq in
      let C = subst (λ u. (not (has_attr Switch u) || is_switched table u.of.0) ≡ true) er hr in (
        members_all (λ (v : AttrVar). AttrFits v.attr (type_at table (pointee table f.of.0))) f.vars (λ v m. by_attr f v.attr (has_of f.vars v m) A B C),
        fields_fit operations legal fs a.1 b.1 c.1,
      )

  module _ (operations : List Operation) (legal : IsLegal table operations) where
    -- a test of fields passes at each member of a struct
    members_pass : (test : FieldAt → Bool) → all_fields test table operations ≡ true → (t : ℕ) (ms : List Field) → type_at table t ≡ Some (def.Struct ms)
        → AllPass table operations legal test ms
    members_pass test h t ms e =
        let (x, y) = and_parts _ _ h in
        test_in table operations legal false test ms 0 ms (passes_at (λ d. list_all test (fields_at false (members_of d))) table t (def.Struct ms) x e)

    pub has_subjects : HasSubjects table
    has_subjects = record {
      members = λ t ms e. fields_fit operations legal ms (members_pass sized legal.sized t ms e) (members_pass ranged legal.varying t ms e)
          (members_pass switched legal.switches t ms e);
    }

    pub params_fit : (o : Operation) → Among operations o → AllByRecursion FieldFits (map (λ p. p.field) o.params)
    params_fit o a =
        fields_fit operations legal (map (λ p. p.field) o.params) (test_all table operations legal sized legal.sized o a) (test_all table operations legal ranged legal.varying o a)
        (test_all table operations legal switched legal.switches o a)

  abbrev Bare : Field → Type 0
  Bare f = (e : TypeId) → type_at table (pointee table f.of.0) ≡ Some (def.Pipe e) → f.vars ≡ []

  param_root_fits : (i : ℕ) (p : Param) → Bare p.field → FieldFits p.field → (o : Option ℕ) → pipe_of table p.field.of.0 ≡ o → RootFits table (root_by i p o)
  param_root_fits i p b f None e = f
  param_root_fits i p b f (Some u) e =
      let (x, a, c) = pipe_is table p.field.of.0 u (type_at table p.field.of.0) refl e in
      subst (λ vs. AllByRecursion (λ (v : AttrVar). AttrFits v.attr (type_at table (pointee table u))) vs) (sym (b x c)) tt

  param_roots_fit : (s : Side) (i : ℕ) (ps : List Param) → AllByRecursion Bare (map (λ p. p.field) ps) → AllByRecursion FieldFits (map (λ p. p.field) ps)
      → AllByRecursion (RootFits table) (params_from table s i ps)
  param_roots_fit s i [] a f = tt
  param_roots_fit s i (p ∷ ps) a f = go (travels s p.way && not (eqb p.field.of.0 HANDLE.0)) (param_roots_fit s (i + 1) ps a.1 f.1)
    where
      go : (b : Bool) → AllByRecursion (RootFits table) (params_from table s (i + 1) ps)
          → AllByRecursion (RootFits table) (elim b [ true ↦ root_of table i p ∷ params_from table s (i + 1) ps | false ↦ params_from table s (i + 1) ps ])
      go true r = (param_root_fits i p a.0 f.0 (pipe_of table p.field.of.0) refl, r)
      go false r = r

kept : (P : Root → Type 0) (test : Root → Bool) (rs : List Root) → AllByRecursion P rs → AllByRecursion P (filter test rs)
kept P test [] a = tt
kept P test (r ∷ rs) a = go (test r) (kept P test rs a.1)
  where
    go : (b : Bool) → AllByRecursion P (filter test rs) → AllByRecursion P (cond b (r ∷ filter test rs) (filter test rs))
    go true x = (a.0, x)
    go false x = x

result_fits : (table : Table) (s : Side) (t : Option TypeId) → AllByRecursion (RootFits table) (result_root s t)
result_fits table side.Out (Some t) = (tt, tt)
result_fits table side.Out None = tt
result_fits table side.In (Some t) = tt
result_fits table side.In None = tt

-- the roots of a legal side
pub roots_fit : (w : Setting) → IsLegalSide w → AllByRecursion (RootFits w.table) (root_list w)
unfolding roots_of
roots_fit w side_of =
    let all : AllByRecursion (RootFits w.table) (params_from w.table w.side 0 w.op.params) =
    param_roots_fit w.table w.side 0 w.op.params (bare_params w.table side_of.operations side_of.legal w.op side_of.operation)
    (params_fit w.table side_of.operations side_of.legal w.op side_of.operation) in
    let ps : List Root = params_from w.table w.side 0 w.op.params in
    all_append (RootFits w.table) (filter (λ r. not r.is_pipe) ps ++ result_root w.side w.op.result) (filter (λ r. r.is_pipe) ps)
    (all_append (RootFits w.table) (filter (λ r. not r.is_pipe) ps) (result_root w.side w.op.result) (kept (RootFits w.table) (λ r. not r.is_pipe) ps all)
    (result_fits w.table w.side w.op.result))
    (kept (RootFits w.table) (λ r. r.is_pipe) ps all)
