-- A partial graph whose stream is accepted whole conforms: each node fits, each agreement holds, and its nodes are few. What comes before the pipes and the
-- pipes themselves are taken apart, as a head may be read whose pipes come later.
use Rattle.std.proofs.Common.{◌≡◌, ℕ, ◌+◌, ◌-◌, ◌^◌, ◌<◌, ◌≤◌, zero, suc, true, false, List, [], ◌∷◌, ◌++◌, length, Option, Some, None, refl, ap, ap₂, sym, ◌∙◌, inl, inr, ◌⊎◌, arith, subst}
use Rattle.std.proofs.Common.{replicate, drop}
use Rattle.std.specs.Prelude.{map, flat_map}
use Rattle.std.specs.List.{AllByRecursion, slice_get}
use Rattle.std.proofs.lemmas.List.{append-nil}
use Rattle.std.proofs.lemmas.Option.{same_Some, slice_get-get_or, slice_get_within}
use Rattle.std.proofs.lemmas.Bool.{cases_lt}
use Rattle.nd_types.specs.declared.types.TypeDef.{TypeDef}
use Rattle.nd_types.specs.declared.types.TypeId.{TypeId}
use Rattle.nd_types.specs.declared.types.TypeDef.TheVariants as def
use Rattle.nd_types.specs.declared.types.Class.TheVariants.{Ref}
use Rattle.nd_types.specs.Table.{Table, type_at}
use Rattle.nd_types.specs.Layout.{hoists}
use Rattle.nd_types.specs.Roots.{Root}
use Rattle.nd_value.specs.declared.value.Graph.{Graph}
use Rattle.nd_value.specs.declared.item.Home.{Home}
use Rattle.nd_value.specs.declared.item.Home.TheVariants as home
use Rattle.nd_value.specs.Tree as tree
use Rattle.nd_value.specs.Tree.{Tree, Trees, node, none, more, Label, Referent, count, node_count, is_pointer, cell_in}
use Rattle.nd_value.specs.Agreement.{Agreement, root_agreements}
use Rattle.nd_value.specs.Setting.{Setting, Among, root_list, or_unread, cell_home, cell_at, cell_of_number}
use Rattle.nd_value.specs.Nodes.{TypedNode, nodes_of, child_types, child_agreements, governed_nodes, home_nodes}
use Rattle.nd_value.specs.Deferral.{Pending, pointer, pointer_by, home_pointers, due_root, due_roots, before_pipes, Step, Deferral, Standing, standing_root, standing_by, direct, root_type}
use Rattle.nd_value.specs.Conforms.{HomeNode, in_home, root_nodes, cell_nodes, all_nodes, all_pointers, Reached, by_root, by_cell, AgreesAt, IsAgreed}
use Rattle.nd_value.specs.Misfit.{misfit_of, has_shape}
use Rattle.nd_value.proofs.Apart.{all_append, all_left, all_right, all_among}
use Rattle.nd_value.proofs.DeferralExists.{direct_is, direct_pointer, no_nodes}
use Rattle.nd_value.proofs.FewRoots.{few_before_pipes}
use Rattle.nd_grammar.specs.LegalSide.{IsLegalSide}
use Rattle.nd_grammar.specs.Entry.{Entry, in_place, own_tests}
use Rattle.nd_grammar.specs.Stream.{step_entries, root_test, root_tests, chunks, Cuts, pipe_entries, pipes_entries, AllCut, kids_of, representation}
use Rattle.nd_grammar.proofs.LegalSides.{laid_out}
use Rattle.nd_grammar.proofs.next.NextStream.{IsPipeRoot, IsLaidOut, drop_at}
use Rattle.nd_lemmas.proofs.Lists.{all_at, all_at as at_index}
use Rattle.nd_grammar.proofs.next.Mapped.{no_pointers, pipe_pointers}
use Rattle.nd_grammar.proofs.reader.ReaderInPlace.{node_entries, value_then_others}
use Rattle.nd_grammar.proofs.reader.MadeTrees.{CellOf, CellFits, label_known, made_count}
use Rattle.nd_grammar.specs.MadeTrees.{FitsAlone, MadeNode, MadeTrees}
use Rattle.nd_grammar.proofs.conforming.Passed.{Passed, PassedAll, left_passed, right_passed, least}
use Rattle.nd_grammar.proofs.conforming.PassedTrees.{PendingAgrees, in_place_fits, in_place_agrees, misfit_none, tests_agree, Rest}
use Rattle.nd_grammar.proofs.Placed.{own, all_placed, Covers}
use Rattle.nd_grammar.proofs.conforming.StreamMet.{made_no_null, root_made, cell_pointers_fit, root_pointers_fit, DueOk, DueMet, HomeMet, Closed, met}
use Rattle.nd_grammar.proofs.reader.FewNodes.{one, Bound, AllFew, list_few, value_few, some_members, some_bound, many_ones, ones}
use Rattle.nd_grammar.specs.ReaderState.{CellMade, RootsMade, Usable, UsablePointer}
use Rattle.nd_grammar.proofs.legal.LegalUsable.{usable_readable, root_usable, element_usable, pointers_usable}
use Rattle.nd_grammar.proofs.conforming.StreamConforms.{one_few, due_all, due_at, all_of, root_pointer, no_child_tests, whole_all, least_chunks, passed_chunks}
use Rattle.nd_grammar.proofs.next.HoistedMaxes.{HoistsLast}

pub pipe_label : (e : TypeId) (l : Label) (ks : Trees) → has_shape (Some (def.Pipe e)) l ks ≡ true → l ≡ tree.Pipe
pipe_label e tree.Pipe ks h = refl
pipe_label e (tree.Num z) ks h = cc
pipe_label e tree.Rec ks h = cc
pipe_label e (tree.Arr m o) ks h = cc
pipe_label e (tree.Text m os) ks h = cc
pipe_label e (tree.Union v) ks h = cc
pipe_label e (tree.Ptr c) ks h = cc
pipe_label e (tree.Context a i) ks h = cc
pipe_label e tree.Unread ks h = cc

pointer_shape : (table : Table) (d : Option TypeDef) (c : Option ℕ) (ks : Trees) → MadeNode table d (tree.Ptr c) ks → FitsAlone table d (tree.Ptr c) ks
pointer_shape table d c ks (inl e) = cc
pointer_shape table d c ks (inr f) = f

no_count : (ks : Trees) → count ks ≡ 0 → node_count ks ≡ 0
no_count none e = refl
no_count (more t ts) e = absurd (omega arith)

by_index : {X : Type 0} (P : X → Type 0) (xs : List X) → ((i : ℕ) (x : X) → slice_get xs i ≡ Some x → P x) → AllByRecursion P xs
by_index P [] f = tt
by_index P (x ∷ xs) f = (f 0 x refl, by_index P xs (λ i y e. f (suc i) y e))

-- a node fits, and agrees
pub record NodeGood (w : Setting) (g : Graph) (x : TypedNode) : Type 0 where
  pub fit : misfit_of w.table g x ≡ None
  pub agrees : AgreesAt g x

-- the nodes of a home are good, and few
pub record HomeGood (w : Setting) (g : Graph) (xs : List TypedNode) (v : Tree) : Type 0 where
  pub nodes : AllByRecursion (NodeGood w g) xs
  pub few : node_count (more v none) < 2 ^ 32

-- the entries of a root that is a pipe, with the counts of its chunks, pass
abbrev pub PipePasses : Setting → ℕ → Root → Tree → Type 0
PipePasses w j r v = (cut : List ℕ) × Cuts (count (kids_of v)) cut × PassedAll (pipe_entries w.table (home.Root j) (type_at w.table r.of) cut v)

module _ (w : Setting) (side : IsLegalSide w) (g : Graph) (typed : AllByRecursion (CellFits g.cells) (all_pointers w g)) (made : RootsMade w.table (root_list w) g.roots)
    (all_roots : length g.roots ≡ length (root_list w)) (cells_made : AllByRecursion (CellMade w.table) g.cells)
    (reached : (c : ℕ) → 0 < c → c < length g.cells + 1 → Reached w g c) (steps : List Step) (deferral : Deferral w g [] (due_roots 0 (before_pipes (root_list w))) steps)
    (steps_passed : PassedAll (flat_map (step_entries w g) steps)) (tests_passed : AllByRecursion Passed (root_tests w g 0 (root_list w) g.roots))
    (pipes_passed : (j : ℕ) (r : Root) (v : Tree) → before_pipes (root_list w) ≤ j → slice_get (root_list w) j ≡ Some r → slice_get g.roots j ≡ Some v → PipePasses w j r v) where
  abbrev n : ℕ
  n = before_pipes (root_list w)

  abbrev rl : List Root
  rl = root_list w

  laid : IsLaidOut w
  laid = laid_out w side

  as_many : (i : ℕ) (r : Root) → slice_get (root_list w) i ≡ Some r → (v : Tree) × (slice_get g.roots i ≡ Some v)
  as_many i r e =
      let b : i < length g.roots = omega (arith, slice_get_within (root_list w) i r e, all_roots) in
      (_, slice_get-get_or g.roots i (node tree.Unread none) b)

  dues_ok : AllByRecursion (DueOk w g typed made as_many) (due_roots 0 n)
  dues_ok = due_all (DueOk w g typed made as_many) 0 n (λ j h. (
      let b : 0 + j < length rl = omega (arith, h, few_before_pipes rl) in
      (_, slice_get-get_or rl (0 + j) (record { of = 0; param = None; vars = []; is_pipe = false }) b)))

  all_met : AllByRecursion (DueMet w g typed made as_many [] steps) (due_roots 0 n) × Closed w g typed made as_many [] steps
  all_met = met w g typed made as_many deferral dues_ok steps_passed

  abbrev Met : Home → ℕ → Tree → Type 0
  Met h t v = HomeMet w g typed made as_many [] steps h t v

  abbrev Standing_met : Standing → Type 0
  Standing_met x = Met x.home x.of x.val × ((c : ℕ) → Among (own x.home) c → Covers w g [] steps c)

  is_placed : (c : ℕ) → Covers w g [] steps c → Among (all_placed w g steps) c
  is_placed c (inl a) = absurd a
  is_placed c (inr a) = a

  root_met : (j : ℕ) (r : Root) (v : Tree) → slice_get rl j ≡ Some r → slice_get g.roots j ≡ Some v → j < n → Standing_met (standing_by g j r.of v (direct (type_at w.table r.of) v))
  root_met j r v er ev h =
      let z : 0 + j ≡ j = omega arith in
      let a : DueMet w g typed made as_many [] steps (due_root j) =
      subst (λ k. DueMet w g typed made as_many [] steps (due_root k)) z (due_at (DueMet w g typed made as_many [] steps) 0 n all_met.0 j h) in
      let e : standing_root w g j ≡ standing_by g j r.of v (direct (type_at w.table r.of) v) =
      ap₂ (λ t u. standing_by g j t u (direct (type_at w.table t) u)) (ap root_type er) (ap or_unread ev) in
      subst Standing_met e a

  -- a root is before the pipes, or is one
  root_kind : (j : ℕ) (r : Root) → slice_get rl j ≡ Some r → (j < n) ⊎ IsPipeRoot w.table r
  root_kind j r e = go (cases_lt j n)
    where
      go : (j < n) ⊎ (n ≤ j) → (j < n) ⊎ IsPipeRoot w.table r
      go (inl h) = inl h
      go (inr h) =
          let k : n + (j - n) ≡ j = omega arith in
          inr (all_at (IsPipeRoot w.table) (drop n rl) (j - n) r laid.pipes (drop_at n rl (j - n) ∙ ap (slice_get rl) k ∙ e))

  no_among : (xs : List Pending) (p : Pending) → xs ≡ [] → Among xs p → ⊥
  no_among xs p e m = subst (λ u. Among u p) e m

  -- a pointer of a root points to what may be read
  root_to : (j : ℕ) (r : Root) (v : Tree) (p : Pending) → slice_get rl j ≡ Some r → Among (home_pointers w.table (home.Root j) r.of v) p → Usable w.table p.to
  root_to j r v p e m = go (root_kind j r e)
    where
      go : (j < n) ⊎ IsPipeRoot w.table r → Usable w.table p.to
      go (inl h) =
          all_among (UsablePointer w.table) (home_pointers w.table (home.Root j) r.of v) p m (pointers_usable w.table side.operations side.legal (home.Root j) r.of v (root_usable w side j r e h))
      go (inr q) = absurd (no_among (home_pointers w.table (home.Root j) r.of v) p (pipe_pointers w.table (home.Root j) r.of q.elem v q.type_is (laid.elements r.of q.elem q.type_is)) m)

  its_type : (p : Pending) (c : ℕ) (x : Referent) → CellFits g.cells p → p.cell ≡ Some c → cell_of_number g c ≡ Some x → p.to ≡ x.of
  its_type p c x f e k =
      let z : CellOf g.cells p.to c = f c e in
      let there : cell_of_number g c ≡ Some z.cell = ap (cell_of_number g) z.is ∙ z.there in
      sym z.of ∙ ap (λ u. u.of) (same_Some z.cell x (sym there ∙ k))

  reached_usable : (c : ℕ) → Reached w g c → (x : Referent) → cell_of_number g c ≡ Some x → Usable w.table x.of
  reached_usable c (by_root p m e) x k =
      let (j, r, v, er, ev, b) = root_pointer w.table 0 rl g.roots p m in
      let z : 0 + j ≡ j = omega arith in
      let b' : Among (home_pointers w.table (home.Root j) r.of v) p = subst (λ i. Among (home_pointers w.table (home.Root i) r.of v) p) z b in
      let f : CellFits g.cells p = all_among (CellFits g.cells) (home_pointers w.table (home.Root j) r.of v) p b' (root_pointers_fit w g typed made as_many j r v er ev) in
      subst (Usable w.table) (its_type p c x f e k) (root_to j r v p er b')
  reached_usable c (by_cell {b = b} y p r ey m e) x k =
      let u : Usable w.table y.of = reached_usable b r y ey in
      let f : CellFits g.cells p = all_among (CellFits g.cells) (home_pointers w.table (cell_home b) y.of y.val) p m (cell_pointers_fit w g typed made as_many b y ey) in
      subst (Usable w.table) (its_type p c x f e k)
      (all_among (UsablePointer w.table) (home_pointers w.table (cell_home b) y.of y.val) p m (pointers_usable w.table side.operations side.legal (cell_home b) y.of y.val u))

  -- each cell that is reached was placed
  by_direct : (j : ℕ) (r : Root) (l : Label) (ks : Trees) (p : Pending) (b : ℕ) → slice_get rl j ≡ Some r → slice_get g.roots j ≡ Some (node l ks)
      → (o : Option (ℕ × ℕ)) → direct (type_at w.table r.of) (node l ks) ≡ o → Standing_met (standing_by g j r.of (node l ks) o)
      → Among (home_pointers w.table (home.Root j) r.of (node l ks)) p → p.cell ≡ Some b → Covers w g [] steps b
  by_direct j r l ks p b er ev None k s m e = (s.0.pointers p m b e).0
  by_direct j r l ks p b er ev (Some (c, t)) k s m e =
      let md : MadeTrees w.table (r.of ∷ []) (more (node l ks) none) = root_made w.table rl g.roots made j r (node l ks) er ev in
      let (to, ed, el, et) = direct_is (type_at w.table r.of) l ks c t k (made_no_null w.table (type_at w.table r.of) l ks md.0) in
      let q : Pending = record { home = home.Root j; node = 0; class = Ref; to = to.0; cell = Some c; agreements = [] } in
      let m' : Among (q ∷ []) p =
      subst (λ u. Among u p) (direct_pointer w.table (home.Root j) r.of c to ks ed) (subst (λ u. Among (home_pointers w.table (home.Root j) r.of (node u ks)) p) el m) in
      subst (Covers w g [] steps) (same_Some c b (ap (λ u. u.cell) (sym (only q p m')) ∙ e)) (s.1 c (inl refl))
    where
      only : (q p : Pending) → Among (q ∷ []) p → p ≡ q
      only q p (inl e) = e
      only q p (inr a) = absurd a

  reached_placed : (b : ℕ) → Reached w g b → Among (all_placed w g steps) b
  reached_placed b (by_root p m e) =
      let (j, r, v, er, ev, k) = root_pointer w.table 0 rl g.roots p m in
      let z : 0 + j ≡ j = omega arith in
      go j r v er ev (subst (λ i. Among (home_pointers w.table (home.Root i) r.of v) p) z k) (root_kind j r er)
    where
      by_tree : (j : ℕ) (r : Root) (v : Tree) → slice_get rl j ≡ Some r → slice_get g.roots j ≡ Some v → Among (home_pointers w.table (home.Root j) r.of v) p → j < n → Among (all_placed w g steps) b
      by_tree j r (node l ks) er ev k h = is_placed b (by_direct j r l ks p b er ev (direct (type_at w.table r.of) (node l ks)) refl (root_met j r (node l ks) er ev h) k e)

      go : (j : ℕ) (r : Root) (v : Tree) → slice_get rl j ≡ Some r → slice_get g.roots j ≡ Some v → Among (home_pointers w.table (home.Root j) r.of v) p
          → (j < n) ⊎ IsPipeRoot w.table r → Among (all_placed w g steps) b
      go j r v er ev k (inl h) = by_tree j r v er ev k h
      go j r v er ev k (inr q) = absurd (no_among (home_pointers w.table (home.Root j) r.of v) p (pipe_pointers w.table (home.Root j) r.of q.elem v q.type_is (laid.elements r.of q.elem q.type_is)) k)
  reached_placed b (by_cell {b = c} x p r ex m e) = is_placed b ((all_met.1 c (reached_placed c r) x ex).pointers p m b e).0

  both_good : (xs : List TypedNode) → AllByRecursion (λ x. misfit_of w.table g x ≡ None) xs → AllByRecursion (AgreesAt g) xs → AllByRecursion (NodeGood w g) xs
  both_good [] a b = tt
  both_good (x ∷ xs) a b = (record { fit = a.0; agrees = b.0 }, both_good xs a.1 b.1)

  hoisting : HoistsLast w.table
  hoisting = laid.hoisting

  -- the nodes of a value that stands are few
  home_few : (h : Home) (t : ℕ) (v : Tree) → Usable w.table t → MadeTrees w.table (t ∷ []) (more v none) → PassedAll (in_place w.table h (t ∷ []) 0 (more v none)) → node_count (more v none) < 2 ^ 32
  home_few h t (node l ks) u m p =
      let v : Tree = node l ks in
      let A : List Entry = node_entries w.table h t (type_at w.table t) 0 v in
      let e : in_place w.table h (t ∷ []) 0 (more v none) ≡ A = value_then_others w.table h t [] 0 v none ∙ append-nil A in
      let q : PassedAll A = subst PassedAll e p in
      let b : Bound 32 (least A + one (hoists w.table t)) (node_count (more v none)) =
      value_few w.table h hoisting (some_members w.table side.operations side.legal) (some_bound w.table side.operations side.legal) 32 t (usable_readable w.table side.operations side.legal t u) 0 v
      (m.0, m.1) q.passed in
      omega (arith, b.below, q.light, one_few (hoists w.table t))

  met_agrees : (h : Home) (t : ℕ) (v : Tree) → Met h t v → AllByRecursion (PendingAgrees w.table g) (home_pointers w.table h t v)
  met_agrees h t v m = all_of (PendingAgrees w.table g) (home_pointers w.table h t v) (λ p a c e. (m.pointers p a c e).1)

  -- a cell's nodes
  pub cell_good : (b : ℕ) (x : Referent) → cell_of_number g b ≡ Some x → HomeGood w g (home_nodes w.table x.of x.val) x.val
  cell_good zero x e = cc
  cell_good (suc i) x e =
      let b : i < length g.cells = slice_get_within g.cells i x e in
      let r : Reached w g (suc i) = reached (suc i) (omega arith) (omega arith) in
      let m : Met (cell_home (suc i)) x.of x.val = all_met.1 (suc i) (reached_placed (suc i) r) x e in
      let p : PassedAll (in_place w.table (cell_home (suc i)) (x.of ∷ []) 0 (more x.val none)) = whole_all w.table (cell_home (suc i)) x.of x.val m.passed in
      let k : MadeTrees w.table (x.of ∷ []) (more x.val none) = at_index (CellMade w.table) g.cells i x cells_made e in
      record {
        nodes = both_good (home_nodes w.table x.of x.val)
            (in_place_fits w.table g (cell_home (suc i)) (x.of ∷ []) [] [] 0 (more x.val none) k (cell_pointers_fit w g typed made as_many (suc i) x e) p.passed)
            (in_place_agrees w.table g (cell_home (suc i)) (x.of ∷ []) [] 0 (more x.val none) k (met_agrees (cell_home (suc i)) x.of x.val m) p.passed
            (no_child_tests (cell_home (suc i)) 0 (more x.val none)));
        few = home_few (cell_home (suc i)) x.of x.val (reached_usable (suc i) r x e) k p;
      }

  -- the agreements of a parameter
  test_at : (i : ℕ) (rs : List Root) (vs : List Tree) → AllByRecursion Passed (root_tests w g i rs vs) → (j : ℕ) (r : Root) (v : Tree) → slice_get rs j ≡ Some r → slice_get vs j ≡ Some v
      → AllByRecursion Passed (root_test g (i + j) v (root_agreements w g r.vars))
  test_at i [] vs a j r v e f = cc
  test_at i (q ∷ rs) [] a j r v e f = cc
  test_at i (q ∷ rs) (u ∷ vs) a zero r v e f =
      let z : i ≡ i + 0 = omega arith in
      subst (λ k. AllByRecursion Passed (root_test g k v (root_agreements w g r.vars))) z
      (subst (λ x. AllByRecursion Passed (root_test g i v (root_agreements w g x.vars))) (same_Some _ _ e)
      (subst (λ x. AllByRecursion Passed (root_test g i x (root_agreements w g q.vars))) (same_Some _ _ f)
      (all_left Passed (root_test g i u (root_agreements w g q.vars)) (root_tests w g (i + 1) rs vs) a)))
  test_at i (q ∷ rs) (u ∷ vs) a (suc j) r v e f =
      let z : i + 1 + j ≡ i + suc j = omega arith in
      subst (λ k. AllByRecursion Passed (root_test g k v (root_agreements w g r.vars))) z
      (test_at (i + 1) rs vs (all_right Passed (root_test g i u (root_agreements w g q.vars)) (root_tests w g (i + 1) rs vs) a) j r v e f)

  tested : (j : ℕ) (r : Root) (v : Tree) → slice_get rl j ≡ Some r → slice_get g.roots j ≡ Some v → AllByRecursion Passed (root_test g j v (root_agreements w g r.vars))
  tested j r v e f =
      let z : 0 + j ≡ j = omega arith in
      subst (λ k. AllByRecursion Passed (root_test g k v (root_agreements w g r.vars))) z (test_at 0 rl g.roots tests_passed j r v e f)

  own_pending : (j : ℕ) (d : Option TypeDef) (l : Label) (ks : Trees) (ags : List Agreement) → AllByRecursion Passed (root_test g j (node l ks) ags)
      → AllByRecursion (PendingAgrees w.table g) (pointer_by d (is_pointer l) (cell_in l) (home.Root j) 0 ags)
  own_pending j (Some (def.Pointer k to)) (tree.Ptr None) ks ags a = ((λ c e. cc), tt)
  own_pending j (Some (def.Pointer k to)) (tree.Ptr (Some c)) ks ags a =
      ((λ b e. subst (λ u. AllByRecursion (IsAgreed (cell_at g u)) ags) (same_Some c b e) (tests_agree w.table g (cell_home c) 0 (cell_at g c) ags a)), tt)
  own_pending j (Some (def.Pointer k to)) _ ks ags a = tt
  own_pending j None l ks ags a = tt
  own_pending j (Some (def.Prim p)) l ks ags a = tt
  own_pending j (Some _) l ks ags a = tt

  own_tested : (j : ℕ) (l : Label) (ks : Trees) (ags : List Agreement) → AllByRecursion Passed (root_test g j (node l ks) ags)
      → AllByRecursion Passed (own_tests (is_pointer l) (home.Root j) 0 (node l ks) ags)
  own_tested j (tree.Ptr c) ks ags a = tt
  own_tested j (tree.Num z) ks ags a = a
  own_tested j tree.Rec ks ags a = a
  own_tested j (tree.Arr m o) ks ags a = a
  own_tested j (tree.Text m os) ks ags a = a
  own_tested j (tree.Union v) ks ags a = a
  own_tested j (tree.Context x i) ks ags a = a
  own_tested j tree.Pipe ks ags a = a
  own_tested j tree.Unread ks ags a = a

  -- a root that stands as itself
  plain_good : (j : ℕ) (r : Root) (l : Label) (ks : Trees) → slice_get rl j ≡ Some r → slice_get g.roots j ≡ Some (node l ks) → j < n → Met (home.Root j) r.of (node l ks)
      → HomeGood w g (governed_nodes w.table r.of (root_agreements w g r.vars) (node l ks)) (node l ks)
  plain_good j r l ks er ev h m =
      let v : Tree = node l ks in
      let ags : List Agreement = root_agreements w g r.vars in
      let d : Option TypeDef = type_at w.table r.of in
      let k : MadeTrees w.table (r.of ∷ []) (more v none) = root_made w.table rl g.roots made j r v er ev in
      let p : PassedAll (in_place w.table (home.Root j) (r.of ∷ []) 0 (more v none)) = whole_all w.table (home.Root j) r.of v m.passed in
      let t : AllByRecursion Passed (root_test g j v ags) = tested j r v er ev in
      let K : List TypedNode = nodes_of w.table (child_types d l ks) (child_agreements d ks) 1 ks in
      let rest : AllByRecursion (PendingAgrees w.table g) (flat_map (pointer w.table (home.Root j)) (K ++ [])) =
      all_right (PendingAgrees w.table g) (pointer_by d (is_pointer l) (cell_in l) (home.Root j) 0 []) (flat_map (pointer w.table (home.Root j)) (K ++ [])) (met_agrees (home.Root j) r.of v m) in
      record {
        nodes = both_good (governed_nodes w.table r.of ags v)
            (in_place_fits w.table g (home.Root j) (r.of ∷ []) (ags ∷ []) [] 0 (more v none) k (root_pointers_fit w g typed made as_many j r v er ev) p.passed)
            (in_place_agrees w.table g (home.Root j) (r.of ∷ []) (ags ∷ []) 0 (more v none) k
            (all_append (PendingAgrees w.table g) (pointer_by d (is_pointer l) (cell_in l) (home.Root j) 0 ags) (flat_map (pointer w.table (home.Root j)) (K ++ [])) (own_pending j d l ks ags t) rest)
            p.passed (all_append Passed (own_tests (is_pointer l) (home.Root j) 0 v ags) [] (own_tested j l ks ags t) tt));
        few = home_few (home.Root j) r.of v (root_usable w side j r er h) k p;
      }

  pointer_rest : (d : Option TypeDef) (to : TypeId) (c : Option ℕ) (ks : Trees) → d ≡ Some (def.Pointer Ref to) → Rest w.table d (tree.Ptr c) ks
  pointer_rest d to c ks e = subst (λ u. Rest w.table u (tree.Ptr c) ks) (sym e) (record { range = refl; within = refl; no_zero = refl; arm = refl })

  pointer_kids : (d : Option TypeDef) (to : TypeId) (c : Option ℕ) (ks : Trees) → d ≡ Some (def.Pointer Ref to) → child_types d (tree.Ptr c) ks ≡ []
  pointer_kids d to c ks e = ap (λ u. child_types u (tree.Ptr c) ks) e

  -- a root whose referent is in its place
  direct_good : (j : ℕ) (r : Root) (to : TypeId) (c : ℕ) (ks : Trees) → slice_get rl j ≡ Some r → slice_get g.roots j ≡ Some (node (tree.Ptr (Some c)) ks)
      → type_at w.table r.of ≡ Some (def.Pointer Ref to) → HomeGood w g (governed_nodes w.table r.of (root_agreements w g r.vars) (node (tree.Ptr (Some c)) ks)) (node (tree.Ptr (Some c)) ks)
  direct_good j r to c ks er ev ed =
      let l : Label = tree.Ptr (Some c) in
      let d : Option TypeDef = type_at w.table r.of in
      let ags : List Agreement = root_agreements w g r.vars in
      let k : MadeTrees w.table (r.of ∷ []) (more (node l ks) none) = root_made w.table rl g.roots made j r (node l ks) er ev in
      let f : FitsAlone w.table d l ks = pointer_shape w.table d (Some c) ks k.0 in
      let fits : AllByRecursion (CellFits g.cells) (pointer_by d true (Some c) (home.Root j) 0 []) =
      all_left (CellFits g.cells) (pointer_by d true (Some c) (home.Root j) 0 []) _ (root_pointers_fit w g typed made as_many j r (node l ks) er ev) in
      let zero_kids : count ks ≡ 0 = made_count w.table (child_types d l ks) ks k.1 ∙ ap length (pointer_kids d to (Some c) ks ed) in
      let its : TypedNode = record { node = 0; of = r.of; agreements = ags; label = l; kids = ks } in
      let e : governed_nodes w.table r.of ags (node l ks) ≡ its ∷ [] =
      ap (λ u. its ∷ (nodes_of w.table u (child_agreements d ks) 1 ks ++ [])) (pointer_kids d to (Some c) ks ed) ∙ ap (λ u. its ∷ (u ++ [])) (no_nodes w.table (child_agreements d ks) 1 ks) in
      let nz : node_count ks ≡ 0 = no_count ks zero_kids in
      record {
        nodes = subst (AllByRecursion (NodeGood w g)) (sym e) (
          record {
            fit = misfit_none w.table g 0 r.of ags l ks f (label_known g d l ks (home.Root j) 0 [] f.shape fits) (pointer_rest d to (Some c) ks ed);
            agrees = (tests_agree w.table g (cell_home c) 0 (cell_at g c) ags (tested j r (node l ks) er ev), tt);
          },
          tt,
        );
        few = omega (arith, nz);
      }

  -- a pipe
  many_of : (P : ℕ → Type 0) (t k : ℕ) → P t → AllByRecursion P (replicate k t)
  many_of P t zero a = tt
  many_of P t (suc k) a = (a, many_of P t k a)

  pipe_rest : (e : TypeId) (ks : Trees) → Rest w.table (Some (def.Pipe e)) tree.Pipe ks
  pipe_rest e ks = record { range = refl; within = refl; no_zero = refl; arm = refl }

  elements_good : (h : Home) (t : ℕ) (x : TypeId) (ks : Trees) (cut : List ℕ) → type_at w.table t ≡ Some (def.Pipe x) → Cuts (count ks) cut → MadeTrees w.table (replicate (count ks) x.0) ks
      → PassedAll (chunks w.table h x.0 1 cut ks) → HomeGood w g (nodes_of w.table (replicate (count ks) x.0) [] 1 ks) (node tree.Pipe ks)
  elements_good h t x ks cut et c m p =
      let N : List TypedNode = nodes_of w.table (replicate (count ks) x.0) [] 1 ks in
      let no_p : flat_map (pointer w.table h) N ≡ [] = no_pointers w.table h (replicate (count ks) x.0) [] 1 ks (many_of _ x.0 (count ks) (laid.elements t x et)) in
      let q : AllByRecursion Passed (in_place w.table h (replicate (count ks) x.0) 1 ks) = passed_chunks w.table h x.0 1 cut ks c.0 p.passed in
      let l : least (in_place w.table h (replicate (count ks) x.0) 1 ks) ≤ least (chunks w.table h x.0 1 cut ks) = least_chunks w.table h x.0 1 cut ks c.0 in
      let f : AllFew w.table h hoisting (some_members w.table side.operations side.legal) (some_bound w.table side.operations side.legal) 32 (replicate (count ks) x.0) 1 ks =
      list_few w.table h hoisting (some_members w.table side.operations side.legal) (some_bound w.table side.operations side.legal) 32 (replicate (count ks) x.0)
      (many_of _ x.0 (count ks) (value_few w.table h hoisting (some_members w.table side.operations side.legal) (some_bound w.table side.operations side.legal) 32 x.0
      (usable_readable w.table side.operations side.legal x.0 (element_usable w.table side.operations side.legal t x et)))) 1 ks m q in
      let o : ones w.table h hoisting (some_members w.table side.operations side.legal) (some_bound w.table side.operations side.legal) (replicate (count ks) x.0) ≡ 0 =
      many_ones w.table h hoisting (some_members w.table side.operations side.legal) (some_bound w.table side.operations side.legal) x.0 (count ks) (hoisting.piped t x et) in
      record {
        nodes = both_good N
            (in_place_fits w.table g h (replicate (count ks) x.0) [] [] 1 ks m (subst (AllByRecursion (CellFits g.cells)) (sym no_p) tt) q)
            (in_place_agrees w.table g h (replicate (count ks) x.0) [] 1 ks m (subst (AllByRecursion (PendingAgrees w.table g)) (sym no_p) tt) q (no_child_tests h 1 ks));
        few = omega (arith, f.below, o, l, p.light);
      }

  pipe_good : (j : ℕ) (r : Root) (l : Label) (ks : Trees) → IsPipeRoot w.table r → slice_get rl j ≡ Some r → slice_get g.roots j ≡ Some (node l ks) → (cut : List ℕ) → Cuts (count ks) cut
      → PassedAll (pipe_entries w.table (home.Root j) (type_at w.table r.of) cut (node l ks))
      → HomeGood w g (governed_nodes w.table r.of (root_agreements w g r.vars) (node l ks)) (node l ks)
  pipe_good j r l ks q er ev cut c p =
      let k : MadeTrees w.table (r.of ∷ []) (more (node l ks) none) = root_made w.table rl g.roots made j r (node l ks) er ev in
      let p' : PassedAll (pipe_entries w.table (home.Root j) (Some (def.Pipe q.elem)) cut (node l ks)) = subst (λ d. PassedAll (pipe_entries w.table (home.Root j) d cut (node l ks))) q.type_is p in
      by_made k.0 k.1 p'
    where
      at_pipe : (l : Label) → l ≡ tree.Pipe → FitsAlone w.table (type_at w.table r.of) l ks → MadeTrees w.table (child_types (type_at w.table r.of) l ks) ks
          → PassedAll (pipe_entries w.table (home.Root j) (Some (def.Pipe q.elem)) cut (node l ks))
          → HomeGood w g (governed_nodes w.table r.of (root_agreements w g r.vars) (node l ks)) (node l ks)
      at_pipe (tree.Num z) e f m p = cc
      at_pipe tree.Rec e f m p = cc
      at_pipe (tree.Arr a b) e f m p = cc
      at_pipe (tree.Text a b) e f m p = cc
      at_pipe (tree.Union z) e f m p = cc
      at_pipe (tree.Ptr z) e f m p = cc
      at_pipe (tree.Context a b) e f m p = cc
      at_pipe tree.Unread e f m p = cc
      at_pipe tree.Pipe e f m p =
          let d : Option TypeDef = type_at w.table r.of in
          let x : TypeId = q.elem in
          let m' : MadeTrees w.table (replicate (count ks) x.0) ks = subst (λ u. MadeTrees w.table (child_types u tree.Pipe ks) ks) q.type_is m in
          let s : HomeGood w g (nodes_of w.table (replicate (count ks) x.0) [] 1 ks) (node tree.Pipe ks) = elements_good (home.Root j) r.of x ks cut q.type_is c m' p in
          let rest : Rest w.table d tree.Pipe ks = subst (λ u. Rest w.table u tree.Pipe ks) (sym q.type_is) (pipe_rest x ks) in
          let no_own : AllByRecursion (CellFits g.cells) (pointer_by d false None (home.Root j) 0 []) =
          subst (λ u. AllByRecursion (CellFits g.cells) (pointer_by u false None (home.Root j) 0 [])) (sym q.type_is) tt in
          let its : List Agreement → TypedNode = λ ags. record { node = 0; of = r.of; agreements = ags; label = tree.Pipe; kids = ks } in
          let fit0 : misfit_of w.table g (its (root_agreements w g r.vars)) ≡ None =
          misfit_none w.table g 0 r.of (root_agreements w g r.vars) tree.Pipe ks f (label_known g d tree.Pipe ks (home.Root j) 0 [] f.shape no_own) rest in
          let agrees0 : AgreesAt g (its (root_agreements w g r.vars)) = subst (λ u. AgreesAt g (its (root_agreements w g u))) (sym q.no_vars) (tt, tt) in
          record {
            nodes =
                subst (λ u. AllByRecursion (NodeGood w g) (its (root_agreements w g r.vars) ∷ (nodes_of w.table (child_types u tree.Pipe ks) (child_agreements u ks) 1 ks ++ []))) (sym q.type_is)
                (record { fit = fit0; agrees = agrees0 }, all_append (NodeGood w g) (nodes_of w.table (replicate (count ks) x.0) [] 1 ks) [] s.nodes tt);
            few = s.few;
          }

      by_made : MadeNode w.table (type_at w.table r.of) l ks → MadeTrees w.table (child_types (type_at w.table r.of) l ks) ks
          → PassedAll (pipe_entries w.table (home.Root j) (Some (def.Pipe q.elem)) cut (node l ks))
          → HomeGood w g (governed_nodes w.table r.of (root_agreements w g r.vars) (node l ks)) (node l ks)
      by_made (inl u) m p = absurd ((subst (λ k. PassedAll (pipe_entries w.table (home.Root j) (Some (def.Pipe q.elem)) cut (node k ks))) u p).passed.0)
      by_made (inr f) m p = at_pipe l (pipe_label q.elem l ks (subst (λ d. has_shape d l ks ≡ true) q.type_is f.shape)) f m p

  -- a root's nodes
  root_good_by : (j : ℕ) (r : Root) (l : Label) (ks : Trees) → slice_get rl j ≡ Some r → slice_get g.roots j ≡ Some (node l ks) → j < n → (o : Option (ℕ × ℕ))
      → direct (type_at w.table r.of) (node l ks) ≡ o → Standing_met (standing_by g j r.of (node l ks) o)
      → HomeGood w g (governed_nodes w.table r.of (root_agreements w g r.vars) (node l ks)) (node l ks)
  root_good_by j r l ks er ev h None k s = plain_good j r l ks er ev h s.0
  root_good_by j r l ks er ev h (Some (c, t)) k s =
      let md : MadeTrees w.table (r.of ∷ []) (more (node l ks) none) = root_made w.table rl g.roots made j r (node l ks) er ev in
      let (to, ed, el, et) = direct_is (type_at w.table r.of) l ks c t k (made_no_null w.table (type_at w.table r.of) l ks md.0) in
      subst (λ u. HomeGood w g (governed_nodes w.table r.of (root_agreements w g r.vars) (node u ks)) (node u ks)) (sym el)
      (direct_good j r to c ks er (subst (λ u. slice_get g.roots j ≡ Some (node u ks)) el ev) ed)

  pub root_good : (j : ℕ) (r : Root) (v : Tree) → slice_get rl j ≡ Some r → slice_get g.roots j ≡ Some v → HomeGood w g (governed_nodes w.table r.of (root_agreements w g r.vars) v) v
  root_good j r (node l ks) er ev = go (cases_lt j n)
    where
      go : (j < n) ⊎ (n ≤ j) → HomeGood w g (governed_nodes w.table r.of (root_agreements w g r.vars) (node l ks)) (node l ks)
      go (inl h) = root_good_by j r l ks er ev h (direct (type_at w.table r.of) (node l ks)) refl (root_met j r (node l ks) er ev h)
      go (inr h) =
          let k : n + (j - n) ≡ j = omega arith in
          let q : IsPipeRoot w.table r = all_at (IsPipeRoot w.table) (drop n rl) (j - n) r laid.pipes (drop_at n rl (j - n) ∙ ap (slice_get rl) k ∙ er) in
          let (cut, c, p) = pipes_passed j r (node l ks) h er ev in
          pipe_good j r l ks q er ev cut c p

  -- all nodes
  abbrev Good : HomeNode → Type 0
  Good x = NodeGood w g x.typed

  in_homes : (h : Home) (xs : List TypedNode) → AllByRecursion (NodeGood w g) xs → AllByRecursion Good (map (in_home h) xs)
  in_homes h [] a = tt
  in_homes h (x ∷ xs) a = (a.0, in_homes h xs a.1)

  over_roots : (i : ℕ) (rs : List Root) (vs : List Tree)
      → ((j : ℕ) (r : Root) (v : Tree) → slice_get rs j ≡ Some r → slice_get vs j ≡ Some v → AllByRecursion (NodeGood w g) (governed_nodes w.table r.of (root_agreements w g r.vars) v))
      → AllByRecursion Good (root_nodes w g i rs vs)
  over_roots i [] vs f = tt
  over_roots i (r ∷ rs) [] f = tt
  over_roots i (r ∷ rs) (v ∷ vs) f =
      all_append Good (map (in_home (home.Root i)) (governed_nodes w.table r.of (root_agreements w g r.vars) v)) (root_nodes w g (i + 1) rs vs)
      (in_homes (home.Root i) (governed_nodes w.table r.of (root_agreements w g r.vars) v) (f 0 r v refl refl)) (over_roots (i + 1) rs vs (λ j q u a b. f (suc j) q u a b))

  over_cells : (i : ℕ) (xs : List Referent) → ((j : ℕ) (x : Referent) → slice_get xs j ≡ Some x → AllByRecursion (NodeGood w g) (home_nodes w.table x.of x.val))
      → AllByRecursion Good (cell_nodes w.table i xs)
  over_cells i [] f = tt
  over_cells i (x ∷ xs) f =
      all_append Good (map (in_home (cell_home i)) (home_nodes w.table x.of x.val)) (cell_nodes w.table (i + 1) xs) (in_homes (cell_home i) (home_nodes w.table x.of x.val) (f 0 x refl))
      (over_cells (i + 1) xs (λ j y e. f (suc j) y e))

  pub all_good : AllByRecursion (λ x. NodeGood w g x.typed) (all_nodes w g)
  all_good =
      all_append Good (root_nodes w g 0 rl g.roots) (cell_nodes w.table 1 g.cells) (over_roots 0 rl g.roots (λ j r v a b. (root_good j r v a b).nodes))
      (over_cells 1 g.cells (λ j x e. (cell_good (suc j) x e).nodes))

  root_there : (i : ℕ) (v : Tree) → slice_get g.roots i ≡ Some v → (r : Root) × (slice_get rl i ≡ Some r)
  root_there i v e =
      let b : i < length rl = omega (arith, slice_get_within g.roots i v e, all_roots) in
      (_, slice_get-get_or rl i (record { of = 0; param = None; vars = []; is_pipe = false }) b)

  values : (xs : List Referent) → AllByRecursion (λ x. node_count (more x.val none) < 2 ^ 32) xs → AllByRecursion (λ t. node_count (more t none) < 2 ^ 32) (map (λ c. c.val) xs)
  values [] a = tt
  values (x ∷ xs) a = (a.0, values xs a.1)

  pub few_nodes : AllByRecursion (λ t. node_count (more t none) < 2 ^ 32) (g.roots ++ map (λ c. c.val) g.cells)
  few_nodes =
      all_append (λ t. node_count (more t none) < 2 ^ 32) g.roots (map (λ c. c.val) g.cells)
      (by_index (λ t. node_count (more t none) < 2 ^ 32) g.roots (λ i v e. (let (r, f) = root_there i v e in (root_good i r v f e).few)))
      (values g.cells (by_index (λ x. node_count (more x.val none) < 2 ^ 32) g.cells (λ i x e. (cell_good (suc i) x e).few)))

-- ## A stream that is accepted whole

module _ (w : Setting) (side : IsLegalSide w) (g : Graph) (typed : AllByRecursion (CellFits g.cells) (all_pointers w g)) (made : RootsMade w.table (root_list w) g.roots)
    (all_roots : length g.roots ≡ length (root_list w)) (cells_made : AllByRecursion (CellMade w.table) g.cells)
    (reached : (c : ℕ) → 0 < c → c < length g.cells + 1 → Reached w g c) (steps : List Step) (deferral : Deferral w g [] (due_roots 0 (before_pipes (root_list w))) steps)
    (cuts : List (List ℕ)) (all_cut : AllCut (drop (before_pipes (root_list w)) g.roots) cuts) (passed : PassedAll (representation w g steps cuts)) where
  abbrev first : ℕ
  first = before_pipes (root_list w)

  abbrev F : List Entry
  F = flat_map (step_entries w g) steps

  abbrev T : List Entry
  T = root_tests w g 0 (root_list w) g.roots

  abbrev Q : List Entry
  Q = pipes_entries w.table first (drop first (root_list w)) (drop first g.roots) cuts

  pipe_at : (i : ℕ) (rs : List Root) (vs : List Tree) (cs : List (List ℕ)) → AllCut vs cs → PassedAll (pipes_entries w.table i rs vs cs) → (k : ℕ) (r : Root) (v : Tree) → slice_get rs k ≡ Some r
      → slice_get vs k ≡ Some v → (cut : List ℕ) × Cuts (count (kids_of v)) cut × PassedAll (pipe_entries w.table (home.Root (i + k)) (type_at w.table r.of) cut v)
  pipe_at i [] vs cs c p k r v e f = cc
  pipe_at i (q ∷ rs) [] cs c p k r v e f = cc
  pipe_at i (q ∷ rs) (u ∷ vs) [] c p k r v e f = absurd c
  pipe_at i (q ∷ rs) (u ∷ vs) (cut ∷ cs) c p zero r v e f =
      let z : i ≡ i + 0 = omega arith in
      let A : List Entry = pipe_entries w.table (home.Root i) (type_at w.table q.of) cut u in
      let a : PassedAll A = left_passed A (pipes_entries w.table (i + 1) rs vs cs) p in (
        cut,
        subst (λ x. Cuts (count (kids_of x)) cut) (same_Some _ _ f) c.0,
        subst (λ j. PassedAll (pipe_entries w.table (home.Root j) (type_at w.table r.of) cut v)) z
            (subst (λ x. PassedAll (pipe_entries w.table (home.Root i) (type_at w.table x.of) cut v)) (same_Some _ _ e)
            (subst (λ x. PassedAll (pipe_entries w.table (home.Root i) (type_at w.table q.of) cut x)) (same_Some _ _ f) a)),
      )
  pipe_at i (q ∷ rs) (u ∷ vs) (cut ∷ cs) c p (suc k) r v e f =
      let z : i + 1 + k ≡ i + suc k = omega arith in
      let A : List Entry = pipe_entries w.table (home.Root i) (type_at w.table q.of) cut u in
      let (d, x, y) = pipe_at (i + 1) rs vs cs c.1 (right_passed A (pipes_entries w.table (i + 1) rs vs cs) p) k r v e f in
      (d, x, subst (λ j. PassedAll (pipe_entries w.table (home.Root j) (type_at w.table r.of) d v)) z y)

  steps_pass : PassedAll F
  steps_pass = left_passed F T (left_passed (F ++ T) Q passed)

  tests_pass : AllByRecursion Passed T
  tests_pass = (right_passed F T (left_passed (F ++ T) Q passed)).passed

  pipes_pass : (j : ℕ) (r : Root) (v : Tree) → first ≤ j → slice_get (root_list w) j ≡ Some r → slice_get g.roots j ≡ Some v → PipePasses w j r v
  pipes_pass j r v h er ev =
      let k : first + (j - first) ≡ j = omega arith in
      let e1 : slice_get (drop first (root_list w)) (j - first) ≡ Some r = drop_at first (root_list w) (j - first) ∙ ap (slice_get (root_list w)) k ∙ er in
      let e2 : slice_get (drop first g.roots) (j - first) ≡ Some v = drop_at first g.roots (j - first) ∙ ap (slice_get g.roots) k ∙ ev in
      let (cut, c, p) = pipe_at first (drop first (root_list w)) (drop first g.roots) cuts all_cut (right_passed (F ++ T) Q passed) (j - first) r v e1 e2 in
      (cut, c, subst (λ i. PassedAll (pipe_entries w.table (home.Root i) (type_at w.table r.of) cut v)) k p)

  pub stream_good : AllByRecursion (λ x. NodeGood w g x.typed) (all_nodes w g)
  stream_good = all_good w side g typed made all_roots cells_made reached steps deferral steps_pass tests_pass pipes_pass

  pub stream_few : AllByRecursion (λ t. node_count (more t none) < 2 ^ 32) (g.roots ++ map (λ c. c.val) g.cells)
  stream_few = few_nodes w side g typed made all_roots cells_made reached steps deferral steps_pass tests_pass pipes_pass
