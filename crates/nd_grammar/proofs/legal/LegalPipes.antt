-- In a legal interface no pipe stands inside another value.
use Rattle.std.proofs.Common.{◌≡◌, ℕ, ◌+◌, ◌<◌, zero, suc, Bool, true, false, ◌&&◌, List, [], ◌∷◌, ◌++◌, Option, Some, None, refl, ap, sym, ◌∙◌, inl, inr, arith}
use Rattle.std.specs.Prelude.{not, eqb, filter, cond}
use Rattle.std.specs.List.{AllByRecursion, list_all, slice_get}
use Rattle.std.proofs.lemmas.Bool.{and_parts, not-true, or_parts as either_false}
use Rattle.std.proofs.lemmas.Option.{same_Some}
use Rattle.nd_types.specs.declared.types.TypeDef.{TypeDef}
use Rattle.nd_types.specs.declared.types.TypeId.{TypeId}
use Rattle.nd_types.specs.declared.types.TypeDef.TheVariants as def
use Rattle.nd_types.specs.declared.types.Class.{Class}
use Rattle.nd_types.specs.declared.types.Class.TheVariants.{Ref, Unique, Full}
use Rattle.nd_types.specs.declared.types.Param.{Param}
use Rattle.nd_types.specs.declared.types.Operation.{Operation}
use Rattle.nd_types.specs.declared.types.Side.{Side}
use Rattle.nd_types.specs.declared.types.Side.TheVariants as side
use Rattle.nd_types.specs.declared.TheConstants.{HANDLE}
use Rattle.nd_types.specs.Table.{Table, type_at}
use Rattle.nd_types.specs.Layout.{parts}
use Rattle.nd_types.specs.Kinds.{is_pipe, is_reference, referent_type, reference_by}
use Rattle.nd_types.specs.Legal.{IsLegal, is_or_refers, stands_alone, tag_of, nullable_pointee_of, refers_to_no_reference, result_passes, is_result_type}
use Rattle.nd_types.specs.Roots.{Root, roots_of, params_from, root_of, root_by, pipe_of, pipe_by, pipe_referent, result_root, travels}
use Rattle.nd_types.proofs.LegalLaws.{passes_at}
use Rattle.nd_value.specs.Tree.{Trees, Label}
use Rattle.nd_value.specs.Setting.{Setting, Among, root_list}
use Rattle.nd_value.specs.Nodes.{child_types}
use Rattle.nd_value.specs.Deferral.{before_pipes}
use Rattle.nd_value.proofs.NodeFacts.{all_of_list}
use Rattle.nd_value.proofs.Apart.{all_append, all_left, all_weaker}
use Rattle.nd_grammar.specs.LegalSide.{IsLegalSide}
use Rattle.nd_grammar.proofs.next.Mapped.{in_parts}
use Rattle.nd_grammar.proofs.conforming.GoodEntries.{HoldsNoPipe}
use Rattle.nd_grammar.specs.ReaderState.{IsNoPipe}
use Rattle.nd_lemmas.proofs.Lists.{all_at}

alone : (table : Table) (t : ℕ) → not (is_or_refers is_pipe table t) ≡ true → IsNoPipe table t
alone table t h =
    let (a, b) = either_false (is_pipe (type_at table t)) (is_pipe (referent_type table t)) (not-true _ h) in
    record { itself = a; referent = b }

no_reference : (table : Table) (t : ℕ) (d : Option TypeDef) → type_at table t ≡ d → is_reference d ≡ false → is_pipe (referent_type table t) ≡ false
no_reference table t (Some (def.Pointer Ref to)) e h = cc
no_reference table t (Some (def.Pointer Unique to)) e h = ap (λ u. is_pipe (reference_by table u)) e
no_reference table t (Some (def.Pointer Full to)) e h = ap (λ u. is_pipe (reference_by table u)) e
no_reference table t None e h = ap (λ u. is_pipe (reference_by table u)) e
no_reference table t (Some (def.Prim p)) e h = ap (λ u. is_pipe (reference_by table u)) e
no_reference table t (Some _) e h = ap (λ u. is_pipe (reference_by table u)) e

module _ (table : Table) (operations : List Operation) (legal : IsLegal table operations) where
  abbrev NoPipe : ℕ → Type 0
  NoPipe = IsNoPipe table

  all_alone : (t : ℕ) (d : TypeDef) → type_at table t ≡ Some d → AllByRecursion NoPipe ((parts (Some d) ++ tag_of d) ++ nullable_pointee_of d)
  all_alone t d e =
      let h : list_all (λ u. not (is_or_refers is_pipe table u)) ((parts (Some d) ++ tag_of d) ++ nullable_pointee_of d) ≡ true =
      passes_at (stands_alone is_pipe table) table t d legal.pipes e in
      all_weaker _ NoPipe (λ u k. alone table u k) ((parts (Some d) ++ tag_of d) ++ nullable_pointee_of d) (all_of_list _ _ h)

  pub parts_alone : (t : ℕ) (d : Option TypeDef) → type_at table t ≡ d → AllByRecursion NoPipe (parts d)
  parts_alone t None e = tt
  parts_alone t (Some d) e = all_left NoPipe (parts (Some d)) (tag_of d) (all_left NoPipe (parts (Some d) ++ tag_of d) (nullable_pointee_of d) (all_alone t d e))

  child_alone : (t : ℕ) (l : Label) (ks : Trees) → NoPipe t → AllByRecursion NoPipe (child_types (type_at table t) l ks)
  child_alone t l ks p = in_parts NoPipe (type_at table t) l ks (parts_alone t (type_at table t) refl)

  pointee_alone : (t : ℕ) (k : Class) (to : TypeId) → type_at table t ≡ Some (def.Pointer k to) → NoPipe t → NoPipe to.0
  pointee_alone t Unique to e p = (all_alone t (def.Pointer Unique to) e).0
  pointee_alone t Full to e p = (all_alone t (def.Pointer Full to) e).0
  pointee_alone t Ref to e p =
      let h : list_all (λ u. not (is_reference (type_at table u))) (to.0 ∷ []) ≡ true = passes_at (refers_to_no_reference table) table t (def.Pointer Ref to) legal.referents e in
      let r : is_reference (type_at table to.0) ≡ false = not-true _ (and_parts _ _ h).0 in
      record {
        itself = ap (λ u. is_pipe (reference_by table u)) (sym e) ∙ p.referent;
        referent = no_reference table to.0 (type_at table to.0) refl r;
      }

  pub holds_no_pipe : HoldsNoPipe table
  holds_no_pipe = record {
    children = child_alone;
    pointee = pointee_alone;
    element = λ t e f. (parts_alone t (Some (def.Pipe e)) f).0;
  }

  -- a parameter that is no pipe among the roots
  no_pipe_by : (t : ℕ) (d : Option TypeDef) → type_at table t ≡ d → pipe_by table t d ≡ None → NoPipe t
  no_pipe_by t (Some (def.Pipe e)) h f = cc
  no_pipe_by t (Some (def.Pointer Ref to)) h f = go (type_at table to.0) refl f
    where
      go : (d : Option TypeDef) → type_at table to.0 ≡ d → pipe_referent to.0 d ≡ None → NoPipe t
      go (Some (def.Pipe e)) k f = cc
      go None k f = record { itself = ap is_pipe h; referent = ap (λ u. is_pipe (reference_by table u)) h ∙ ap is_pipe k }
      go (Some (def.Prim p)) k f = record { itself = ap is_pipe h; referent = ap (λ u. is_pipe (reference_by table u)) h ∙ ap is_pipe k }
      go (Some _) k f = record { itself = ap is_pipe h; referent = ap (λ u. is_pipe (reference_by table u)) h ∙ ap is_pipe k }
  no_pipe_by t (Some (def.Pointer Unique to)) h f = record { itself = ap is_pipe h; referent = ap (λ u. is_pipe (reference_by table u)) h }
  no_pipe_by t (Some (def.Pointer Full to)) h f = record { itself = ap is_pipe h; referent = ap (λ u. is_pipe (reference_by table u)) h }
  no_pipe_by t None h f = record { itself = ap is_pipe h; referent = ap (λ u. is_pipe (reference_by table u)) h }
  no_pipe_by t (Some (def.Prim p)) h f = record { itself = ap is_pipe h; referent = ap (λ u. is_pipe (reference_by table u)) h }
  no_pipe_by t (Some _) h f = record { itself = ap is_pipe h; referent = ap (λ u. is_pipe (reference_by table u)) h }

  abbrev PlainIsNoPipe : Root → Type 0
  PlainIsNoPipe r = r.is_pipe ≡ false → NoPipe r.of

  plain_root : (i : ℕ) (p : Param) (o : Option ℕ) → pipe_of table p.field.of.0 ≡ o → PlainIsNoPipe (root_by i p o)
  plain_root i p None e h = no_pipe_by p.field.of.0 (type_at table p.field.of.0) refl e
  plain_root i p (Some u) e h = cc

  plain_params : (s : Side) (i : ℕ) (ps : List Param) → AllByRecursion PlainIsNoPipe (params_from table s i ps)
  plain_params s i [] = tt
  plain_params s i (p ∷ ps) = go (travels s p.way && not (eqb p.field.of.0 HANDLE.0)) (plain_params s (i + 1) ps)
    where
      go : (b : Bool) → AllByRecursion PlainIsNoPipe (params_from table s (i + 1) ps)
          → AllByRecursion PlainIsNoPipe (elim b [ true ↦ root_of table i p ∷ params_from table s (i + 1) ps | false ↦ params_from table s (i + 1) ps ])
      go true r = (plain_root i p (pipe_of table p.field.of.0) refl, r)
      go false r = r

  kept : (test : Root → Bool) (rs : List Root) → AllByRecursion PlainIsNoPipe rs → AllByRecursion PlainIsNoPipe (filter test rs)
  kept test [] a = tt
  kept test (r ∷ rs) a = go (test r) (kept test rs a.1)
    where
      go : (b : Bool) → AllByRecursion PlainIsNoPipe (filter test rs) → AllByRecursion PlainIsNoPipe (cond b (r ∷ filter test rs) (filter test rs))
      go true x = (a.0, x)
      go false x = x

  result_type : (t : ℕ) (d : Option TypeDef) → type_at table t ≡ d → is_result_type d ≡ true → NoPipe t
  result_type t (Some (def.Prim p)) e h = record { itself = ap is_pipe e; referent = ap (λ u. is_pipe (reference_by table u)) e }
  result_type t (Some (def.Enum vs)) e h = record { itself = ap is_pipe e; referent = ap (λ u. is_pipe (reference_by table u)) e }
  result_type t None e h = cc
  result_type t (Some _) e h = cc

  result_alone : (s : Side) (t : Option TypeId) → result_passes (λ u. is_result_type (type_at table u)) t ≡ true → AllByRecursion PlainIsNoPipe (result_root s t)
  result_alone side.Out (Some t) h = ((λ e. result_type t.0 (type_at table t.0) refl h), tt)
  result_alone side.Out None h = tt
  result_alone side.In (Some t) h = tt
  result_alone side.In None h = tt

  result_of : (os : List Operation) → list_all (λ o. result_passes (λ t. is_result_type (type_at table t)) o.result) os ≡ true → (o : Operation) → Among os o
      → result_passes (λ t. is_result_type (type_at table t)) o.result ≡ true
  result_of [] h o a = absurd a
  result_of (q ∷ os) h o (inl e) = let (x, y) = and_parts _ _ h in ap (λ u. result_passes (λ t. is_result_type (type_at table t)) u.result) e ∙ x
  result_of (q ∷ os) h o (inr a) = let (x, y) = and_parts _ _ h in result_of os y o a

  roots_alone : (s : Side) (o : Operation) → Among operations o → AllByRecursion PlainIsNoPipe (roots_of table s o)
  unfolding roots_of
  roots_alone s o a =
      let ps = params_from table s 0 o.params in
      all_append PlainIsNoPipe (filter (λ r. not r.is_pipe) ps ++ result_root s o.result) (filter (λ r. r.is_pipe) ps)
      (all_append PlainIsNoPipe (filter (λ r. not r.is_pipe) ps) (result_root s o.result) (kept (λ r. not r.is_pipe) ps (plain_params s 0 o.params))
      (result_alone s o.result (result_of operations legal.results o a)))
      (kept (λ r. r.is_pipe) ps (plain_params s 0 o.params))

abbrev count_from : Bool → ℕ → ℕ
count_from b n = elim b [ true ↦ 0 | false ↦ suc n ]

-- a root before the first pipe is none
before_is_plain : (rs : List Root) (i : ℕ) (r : Root) → slice_get rs i ≡ Some r → i < before_pipes rs → r.is_pipe ≡ false
before_is_plain [] i r e h = cc
before_is_plain (q ∷ rs) i r e h = go q.is_pipe refl i e h (before_is_plain rs)
  where
    go : (b : Bool) → q.is_pipe ≡ b → (i : ℕ) → slice_get (q ∷ rs) i ≡ Some r → i < count_from b (before_pipes rs)
        → ((j : ℕ) (r : Root) → slice_get rs j ≡ Some r → j < before_pipes rs → r.is_pipe ≡ false) → r.is_pipe ≡ false
    go true f i e h k = absurd (omega arith)
    go false f zero e h k = ap (λ u. u.is_pipe) (sym (same_Some _ _ e)) ∙ f
    go false f (suc i) e h k = k i r e (omega arith)

pub plain_before : (w : Setting) (side : IsLegalSide w) (i : ℕ) (r : Root) → slice_get (root_list w) i ≡ Some r → i < before_pipes (root_list w) → IsNoPipe w.table r.of
plain_before w side i r e h =
    all_at _ (root_list w) i r (roots_alone w.table side.operations side.legal w.side w.op side.operation) e (before_is_plain (root_list w) i r e h)
