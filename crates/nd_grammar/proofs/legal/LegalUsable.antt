-- In a legal interface the roots before the pipes, and what pointers point to, are of the table and hold no pipe; bounds are of 32 bits.
use Rattle.std.proofs.Common.{◌≡◌, ℕ, ◌+◌, ◌<◌, ◌≤◌, zero, suc, Bool, true, false, List, [], ◌∷◌, ◌++◌, length, Option, Some, None, refl, ap, sym, ◌∙◌, inl, inr, ◌⊎◌, arith, subst}
use Rattle.std.specs.Prelude.{flat_map, not, eqb, filter, cond, ◌||◌, ◌&&◌, nat_le}
use Rattle.std.specs.List.{AllByRecursion, slice_get, list_all}
use Rattle.std.proofs.lemmas.Grind.{flat_map-append}
use Rattle.std.proofs.lemmas.Bool.{and_parts, leb-true, ltb-true, or_cases}
use Rattle.nd_types.specs.declared.types.TypeDef.{TypeDef}
use Rattle.nd_types.specs.declared.types.TypeId.{TypeId}
use Rattle.nd_types.specs.declared.types.TypeDef.TheVariants as def
use Rattle.nd_types.specs.declared.types.Class.{Class}
use Rattle.nd_types.specs.declared.types.Class.TheVariants.{Ref, Unique, Full}
use Rattle.nd_types.specs.declared.types.Param.{Param}
use Rattle.nd_types.specs.declared.types.Operation.{Operation}
use Rattle.nd_types.specs.declared.types.Side.{Side}
use Rattle.nd_types.specs.declared.types.Side.TheVariants as side
use Rattle.nd_types.specs.declared.TheConstants.{HANDLE, ELEMENT_LIMIT}
use Rattle.nd_types.specs.Table.{Table, type_at}
use Rattle.nd_types.specs.Layout.{parts}
use Rattle.nd_types.specs.Legal.{IsLegal, has_small_bound, pointee_of, tag_of, is_in_table, is_handle, result_passes}
use Rattle.nd_types.specs.Roots.{Root, roots_of, params_from, root_of, root_by, pipe_of, pipe_by, pipe_referent, result_root, travels}
use Rattle.nd_types.proofs.LegalLaws.{passes_at}
use Rattle.nd_value.specs.declared.item.Home.{Home}
use Rattle.nd_value.specs.Tree.{Tree, Trees, node, none, more, Label, node_count, is_pointer, cell_in}
use Rattle.nd_value.specs.Agreement.{Agreement}
use Rattle.nd_value.specs.Setting.{Setting, Among, root_list}
use Rattle.nd_value.specs.Nodes.{TypedNode, nodes_of, child_types, child_agreements, first_agreements, rest_agreements}
use Rattle.nd_value.specs.Deferral.{pointer, pointer_by, home_pointers, before_pipes}
use Rattle.nd_value.proofs.Apart.{all_append, all_left}
use Rattle.nd_grammar.specs.LegalSide.{IsLegalSide}
use Rattle.nd_grammar.proofs.next.Mapped.{in_parts}
use Rattle.nd_grammar.specs.ReaderState.{IsNoPipe, Known, Usable, UsablePointer}
use Rattle.nd_grammar.proofs.legal.LegalPipes.{parts_alone, holds_no_pipe, plain_before}
use Rattle.nd_lemmas.proofs.Lists.{all_at}
use Rattle.nd_grammar.proofs.legal.LegalReadable.{named_known, legal_readable}
use Rattle.nd_grammar.proofs.reader.ReaderInPlace.{Readable}
use Rattle.nd_grammar.proofs.reader.ReaderMakes.{IsSmall, SmallBound, SmallBounds}

bound_below : (b : Option ℕ) → elim b [ None ↦ true | Some n ↦ nat_le 1 n && nat_le n ELEMENT_LIMIT ] ≡ true → IsSmall b
bound_below None h = tt
bound_below (Some n) h =
    let (x, y) = and_parts _ _ h in
    let z : n ≤ ELEMENT_LIMIT = leb-true n ELEMENT_LIMIT y in
    omega arith

module _ (table : Table) (operations : List Operation) (legal : IsLegal table operations) where
  small_bound : (t : ℕ) (d : TypeDef) → type_at table t ≡ Some d → SmallBound d
  small_bound t (def.Array e b v) h = small b (passes_at has_small_bound table t (def.Array e b v) legal.bounds h)
    where
      small : (b : Option ℕ) → has_small_bound (def.Array e b v) ≡ true → IsSmall b
      small None k = tt
      small (Some n) k = bound_below (Some n) k
  small_bound t (def.Text e b) h = small b (passes_at has_small_bound table t (def.Text e b) legal.bounds h)
    where
      small : (b : Option ℕ) → has_small_bound (def.Text e b) ≡ true → IsSmall b
      small None k = tt
      small (Some n) k = bound_below (Some n) k
  small_bound t (def.Prim p) h = tt
  small_bound t _ h = tt

  pub small_bounds : SmallBounds table
  small_bounds = record { each = small_bound }

  pub usable_readable : (t : ℕ) → Usable table t → Readable table 32 t
  usable_readable t u = legal_readable table operations legal t u.known u.no_pipe

  both : (ts : List ℕ) → AllByRecursion (Known table) ts → AllByRecursion (IsNoPipe table) ts → AllByRecursion (Usable table) ts
  both [] a b = tt
  both (t ∷ ts) a b = (record { known = a.0; no_pipe = b.0 }, both ts a.1 b.1)

  parts_usable : (t : ℕ) (d : Option TypeDef) → type_at table t ≡ d → AllByRecursion (Usable table) (parts d)
  parts_usable t None e = tt
  parts_usable t (Some d) e =
      both (parts (Some d))
      (all_left (Known table) (parts (Some d)) (tag_of d) (all_left (Known table) (parts (Some d) ++ tag_of d) (pointee_of d) (named_known table operations legal t d e)))
      (parts_alone table operations legal t (Some d) e)

  pub children_usable : (t : ℕ) (l : Label) (ks : Trees) → AllByRecursion (Usable table) (child_types (type_at table t) l ks)
  children_usable t l ks = in_parts (Usable table) (type_at table t) l ks (parts_usable t (type_at table t) refl)

  pub pointee_usable : (t : ℕ) (k : Class) (to : TypeId) → type_at table t ≡ Some (def.Pointer k to) → IsNoPipe table t → Usable table to.0
  pointee_usable t k to e p = record {
    known = (named_known table operations legal t (def.Pointer k to) e).0;
    no_pipe = (holds_no_pipe table operations legal).pointee t k to e p;
  }

  pub element_usable : (t : ℕ) (x : TypeId) → type_at table t ≡ Some (def.Pipe x) → Usable table x.0
  element_usable t x e = record {
    known = (named_known table operations legal t (def.Pipe x) e).0;
    no_pipe = (holds_no_pipe table operations legal).element t x e;
  }

  own_usable : (t : ℕ) (d : Option TypeDef) (b : Bool) (c : Option ℕ) (h : Home) (n : ℕ) (ags : List Agreement) → type_at table t ≡ d → IsNoPipe table t
      → AllByRecursion (UsablePointer table) (pointer_by d b c h n ags)
  own_usable t (Some (def.Pointer k to)) true c h n ags e p = (pointee_usable t k to e p, tt)
  own_usable t (Some (def.Pointer k to)) false c h n ags e p = tt
  own_usable t None b c h n ags e p = tt
  own_usable t (Some (def.Prim q)) b c h n ags e p = tt
  own_usable t (Some _) b c h n ags e p = tt

  nodes_usable : (h : Home) (types : List ℕ) (ags : List (List Agreement)) (n : ℕ) (ts : Trees) → AllByRecursion (Usable table) types
      → AllByRecursion (UsablePointer table) (flat_map (pointer table h) (nodes_of table types ags n ts))
  nodes_usable h types ags n none a = tt
  nodes_usable h [] ags n (more t ts) a = tt
  nodes_usable h (t ∷ types) ags n (more (node l ks) ts) a =
      let d : Option TypeDef = type_at table t in
      let K : List TypedNode = nodes_of table (child_types d l ks) (child_agreements d ks) (n + 1) ks in
      let R : List TypedNode = nodes_of table types (rest_agreements ags) (n + 1 + node_count ks) ts in
      all_append (UsablePointer table) (pointer_by d (is_pointer l) (cell_in l) h n (first_agreements ags)) (flat_map (pointer table h) (K ++ R))
      (own_usable t d (is_pointer l) (cell_in l) h n (first_agreements ags) refl a.0.no_pipe)
      (subst (AllByRecursion (UsablePointer table)) (sym (flat_map-append (pointer table h) K R))
      (all_append (UsablePointer table) (flat_map (pointer table h) K) (flat_map (pointer table h) R)
      (nodes_usable h (child_types d l ks) (child_agreements d ks) (n + 1) ks (children_usable t l ks))
      (nodes_usable h types (rest_agreements ags) (n + 1 + node_count ks) ts a.1)))

  -- what the pointers of a value point to
  pub pointers_usable : (h : Home) (t : ℕ) (v : Tree) → Usable table t → AllByRecursion (UsablePointer table) (home_pointers table h t v)
  pointers_usable h t v u = nodes_usable h (t ∷ []) [] 0 (more v none) (u, tt)

  -- roots are of the table
  abbrev RootKnown : Root → Type 0
  RootKnown r = Known table r.of

  in_table : {X : Type 0} (xs : List X) (t : ℕ) → t < length xs → (x : X) × (slice_get xs t ≡ Some x)
  in_table [] t h = absurd (omega arith)
  in_table (x ∷ xs) zero h = (x, refl)
  in_table (x ∷ xs) (suc t) h = in_table xs t (omega arith)

  is_known : (t : ℕ) → is_in_table table t ≡ true → Known table t
  is_known t h = in_table table t (ltb-true t (length table) h)

  pipe_known : (t : ℕ) (d : Option TypeDef) → type_at table t ≡ d → Known table t → (o : Option ℕ) → pipe_by table t d ≡ o → (u : ℕ) → o ≡ Some u → Known table u
  pipe_known t (Some (def.Pipe e)) h k o f u g = subst (Known table) (same u (f ∙ g)) k
    where
      same : (u : ℕ) → Some t ≡ Some u → t ≡ u
      same u e = cc
  pipe_known t (Some (def.Pointer Ref to)) h k o f u g = go (type_at table to.0) refl (f ∙ g)
    where
      go : (d : Option TypeDef) → type_at table to.0 ≡ d → pipe_referent to.0 d ≡ Some u → Known table u
      go (Some (def.Pipe e)) i j = let s : to.0 ≡ u = cc in subst (Known table) s (def.Pipe e, i)
      go None i j = cc
      go (Some (def.Prim p)) i j = cc
      go (Some _) i j = cc
  pipe_known t None h k o f u g = cc
  pipe_known t (Some (def.Pointer Unique to)) h k o f u g = cc
  pipe_known t (Some (def.Pointer Full to)) h k o f u g = cc
  pipe_known t (Some _) h k o f u g = cc

  param_known : (i : ℕ) (p : Param) → Known table p.field.of.0 → (o : Option ℕ) → pipe_of table p.field.of.0 ≡ o → RootKnown (root_by i p o)
  param_known i p k None e = k
  param_known i p k (Some u) e = pipe_known p.field.of.0 (type_at table p.field.of.0) refl k (Some u) e u refl

  params_known : (s : Side) (i : ℕ) (ps : List Param) → list_all (λ p. is_handle p || is_in_table table p.field.of.0) ps ≡ true → AllByRecursion RootKnown (params_from table s i ps)
  params_known s i [] a = tt
  params_known s i (p ∷ ps) a =
      let (x, y) = and_parts _ _ a in
      go (travels s p.way) (eqb p.field.of.0 HANDLE.0) refl (or_cases _ _ x) (params_known s (i + 1) ps y)
    where
      go : (b c : Bool) → eqb p.field.of.0 HANDLE.0 ≡ c → (is_handle p ≡ true) ⊎ (is_in_table table p.field.of.0 ≡ true) → AllByRecursion RootKnown (params_from table s (i + 1) ps)
          → AllByRecursion RootKnown (elim (b && not c) [ true ↦ root_of table i p ∷ params_from table s (i + 1) ps | false ↦ params_from table s (i + 1) ps ])
      go false c e h r = r
      go true true e h r = r
      go true false e (inr h) r = (param_known i p (is_known p.field.of.0 h) (pipe_of table p.field.of.0) refl, r)
      go true false e (inl h) r = absurd (never e h)
        where
          never : eqb p.field.of.0 HANDLE.0 ≡ false → is_handle p ≡ true → ⊥
          never a b = cc

  kept : (test : Root → Bool) (rs : List Root) → AllByRecursion RootKnown rs → AllByRecursion RootKnown (filter test rs)
  kept test [] a = tt
  kept test (r ∷ rs) a = go (test r) (kept test rs a.1)
    where
      go : (b : Bool) → AllByRecursion RootKnown (filter test rs) → AllByRecursion RootKnown (cond b (r ∷ filter test rs) (filter test rs))
      go true x = (a.0, x)
      go false x = x

  result_known : (s : Side) (t : Option TypeId) → result_passes (is_in_table table) t ≡ true → AllByRecursion RootKnown (result_root s t)
  result_known side.Out (Some t) h = (is_known t.0 h, tt)
  result_known side.Out None h = tt
  result_known side.In (Some t) h = tt
  result_known side.In None h = tt

  of_operation : (test : Operation → Bool) (os : List Operation) → list_all test os ≡ true → (o : Operation) → Among os o → test o ≡ true
  of_operation test [] h o a = absurd a
  of_operation test (q ∷ os) h o (inl e) = ap test e ∙ (and_parts _ _ h).0
  of_operation test (q ∷ os) h o (inr a) = of_operation test os (and_parts _ _ h).1 o a

  pub roots_known : (s : Side) (o : Operation) → Among operations o → AllByRecursion (λ r. Known table r.of) (roots_of table s o)
  unfolding roots_of
  roots_known s o a =
      let ps = params_from table s 0 o.params in
      let k : AllByRecursion RootKnown ps = params_known s 0 o.params (of_operation (λ o. list_all (λ p. is_handle p || is_in_table table p.field.of.0) o.params) operations legal.params_known o a) in
      all_append RootKnown (filter (λ r. not r.is_pipe) ps ++ result_root s o.result) (filter (λ r. r.is_pipe) ps)
      (all_append RootKnown (filter (λ r. not r.is_pipe) ps) (result_root s o.result) (kept (λ r. not r.is_pipe) ps k)
      (result_known s o.result (of_operation (λ o. result_passes (is_in_table table) o.result) operations legal.results_known o a)))
      (kept (λ r. r.is_pipe) ps k)

-- a root before the pipes
pub root_usable : (w : Setting) (side : IsLegalSide w) (i : ℕ) (r : Root) → slice_get (root_list w) i ≡ Some r → i < before_pipes (root_list w) → Usable w.table r.of
root_usable w side i r e h = record {
  known = all_at (λ r. Known w.table r.of) (root_list w) i r (roots_known w.table side.operations side.legal w.side w.op side.operation) e;
  no_pipe = plain_before w side i r e h;
}
