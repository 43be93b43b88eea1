-- The roots of two graphs of one side stand alike.
use Rattle.std.proofs.Common.{◌≡◌, ℕ, ◌<◌, ◌≤◌, true, false, List, [], ◌∷◌, length, Option, Some, None, refl, ap, ap₂, sym, ◌∙◌, inl, inr, ◌⊎◌, arith, subst}
use Rattle.std.specs.List.{slice_get}
use Rattle.std.proofs.lemmas.Option.{slice_get_past, slice_get-get_or}
use Rattle.std.proofs.lemmas.Bool.{cases_lt}
use Rattle.nd_types.specs.declared.types.TypeDef.{TypeDef}
use Rattle.nd_types.specs.declared.types.TypeId.{TypeId}
use Rattle.nd_types.specs.declared.types.TypeDef.TheVariants as def
use Rattle.nd_types.specs.declared.types.Class.TheVariants.{Ref, Unique, Full}
use Rattle.nd_types.specs.Table.{type_at}
use Rattle.nd_types.specs.Roots.{Root}
use Rattle.nd_value.specs.declared.value.Graph.{Graph}
use Rattle.nd_value.specs.Tree as tree
use Rattle.nd_value.specs.Tree.{Tree, Trees, node, none, more, Label, Referent, cell_in}
use Rattle.nd_value.specs.declared.item.Home.TheVariants as home
use Rattle.nd_value.specs.Setting.{Setting, Among, root_list, root_at, or_unread, unread, cell_at, cell_tree, cell_of_number}
use Rattle.nd_value.specs.Nodes.{child_types}
use Rattle.nd_value.specs.Misfit.{has_counts}
use Rattle.nd_value.specs.Conforms.{all_pointers}
use Rattle.nd_value.specs.Deferral.{Pending, home_pointers, direct, Standing, standing_by, standing_root, root_type}
use Rattle.nd_value.proofs.DeferralExists.{direct_pointer}
use Rattle.nd_value.proofs.NodeFacts.{IsSound}
use Rattle.nd_grammar.proofs.next.PointerPlaces.{in_root}
use Rattle.nd_grammar.proofs.next.Next.{Pair, Readings}
use Rattle.nd_grammar.proofs.next.Matching.{Known, NodeKnown, Matched, PointeeKnown}
use Rattle.nd_grammar.proofs.next.Carried.{InMap}
use Rattle.nd_grammar.proofs.next.Standings.{RootsMeet, RootsAlike, IsUnreadTree}
use Rattle.nd_grammar.proofs.next.KnownNodes.{known_cells, known_roots}

past : (rs : List Root) (i : ℕ) → slice_get rs i ≡ None → (n : ℕ) → n ≡ length rs → n ≤ i
past rs i e n h = go (cases_lt i (length rs))
  where
    go : (i < length rs) ⊎ (length rs ≤ i) → n ≤ i
    go (inr k) = omega arith
    go (inl k) = let f = slice_get-get_or rs i (record { of = 0; param = None; vars = []; is_pipe = false }) k in cc

shaped : (l : Label) (A : Type 0) → (l ≡ tree.Unread) ⊎ ((false ≡ true) × A) → (l ≡ tree.Unread) ⊎ ((c : ℕ) × (l ≡ tree.Ptr (Some c)))
shaped l A (inl e) = inl e
shaped l A (inr s) = let e : false ≡ true = s.0 in cc

-- the label of a top-level reference pointer: unread, or a cell
pub ref_label : (g : Graph) (to : TypeId) (l : Label) (ks : Trees) → NodeKnown g (Some (def.Pointer Ref to)) l ks → (l ≡ tree.Unread) ⊎ ((c : ℕ) × (l ≡ tree.Ptr (Some c)))
ref_label g to (tree.Ptr (Some c)) ks k = inr (c, refl)
ref_label g to (tree.Ptr None) ks k = let e = k.no_null in cc
ref_label g to tree.Unread ks k = inl refl
ref_label g to (tree.Num z) ks k = shaped (tree.Num z) (has_counts (Some (def.Pointer Ref to)) (tree.Num z) ks ≡ true) k.shape
ref_label g to tree.Rec ks k = shaped tree.Rec (has_counts (Some (def.Pointer Ref to)) tree.Rec ks ≡ true) k.shape
ref_label g to (tree.Arr m o) ks k = shaped (tree.Arr m o) (has_counts (Some (def.Pointer Ref to)) (tree.Arr m o) ks ≡ true) k.shape
ref_label g to (tree.Text m os) ks k = shaped (tree.Text m os) (has_counts (Some (def.Pointer Ref to)) (tree.Text m os) ks ≡ true) k.shape
ref_label g to (tree.Union v) ks k = shaped (tree.Union v) (has_counts (Some (def.Pointer Ref to)) (tree.Union v) ks ≡ true) k.shape
ref_label g to (tree.Context a i) ks k = shaped (tree.Context a i) (has_counts (Some (def.Pointer Ref to)) (tree.Context a i) ks ≡ true) k.shape
ref_label g to tree.Pipe ks k = shaped tree.Pipe (has_counts (Some (def.Pointer Ref to)) tree.Pipe ks ≡ true) k.shape

unread_direct : (d : Option TypeDef) (ks : Trees) → direct d (node tree.Unread ks) ≡ None
unread_direct (Some (def.Pointer Ref to)) ks = refl
unread_direct (Some (def.Pointer Unique to)) ks = refl
unread_direct (Some (def.Pointer Full to)) ks = refl
unread_direct None ks = refl
unread_direct (Some _) ks = refl

-- a type is a reference pointer, or its values stand in their own places
ref_or_not : (d : Option TypeDef) → ((to : TypeId) × (d ≡ Some (def.Pointer Ref to))) ⊎ ((v : Tree) → direct d v ≡ None)
ref_or_not (Some (def.Pointer Ref to)) = inl (to, refl)
ref_or_not (Some (def.Pointer Unique to)) = inr (λ v. refl)
ref_or_not (Some (def.Pointer Full to)) = inr (λ v. refl)
ref_or_not None = inr (λ v. refl)
ref_or_not (Some _) = inr (λ v. refl)

module _ (two : Readings) (w : Setting) (g g' : Graph)
    (cells : (c : ℕ) (x : Referent) → cell_of_number g c ≡ Some x → Known g w.table (x.of ∷ []) (more x.val none))
    (cells' : (c : ℕ) (x : Referent) → cell_of_number g' c ≡ Some x → Known g' w.table (x.of ∷ []) (more x.val none))
    (i t : ℕ) (its_type : root_type (slice_get (root_list w) i) ≡ t)
    (inside : (p : Pending) → Among (home_pointers w.table (home.Root i) t (root_at g i)) p → Among (all_pointers w g) p)
    (inside' : (p : Pending) → Among (home_pointers w.table (home.Root i) t (root_at g' i)) p → Among (all_pointers w g') p) where
  abbrev d : Option TypeDef
  d = type_at w.table t

  abbrev at_left : Tree → Standing
  at_left v = standing_by g i t v (direct d v)

  abbrev at_right : Tree → Standing
  at_right v = standing_by g' i t v (direct d v)

  -- in their own places
  own_places : (v v' : Tree) → root_at g i ≡ v → root_at g' i ≡ v' → Known g w.table (t ∷ []) (more v none) → Known g' w.table (t ∷ []) (more v' none)
      → RootsAlike two w g g' i (standing_by g i t v None) (standing_by g' i t v' None)
  own_places v v' e e' a b = record {
    of = refl;
    known = a;
    known' = b;
    pairs = [];
    one = tt;
    lefts = refl;
    rights = refl;
    meet = λ xs. refl;
    named = λ xs. tt;
    fit = λ m. tt;
    closed = λ ys m. tt;
    whole = λ ys among m. record {
      carried_by =
          subst (λ u. Matched (InMap ys) w.table (u ∷ []) (more (root_at g i) none) (more (root_at g' i) none)) (sym its_type)
          (subst (λ u. Matched (InMap ys) w.table (t ∷ []) (more u none) (more (root_at g' i) none)) (sym e)
          (subst (λ u. Matched (InMap ys) w.table (t ∷ []) (more v none) (more u none)) (sym e') m));
    };
  }

  no_kids : (map : List Pair) (ks ks' : Trees) → Known g w.table [] ks → Known g' w.table [] ks' → Matched (InMap map) w.table [] ks ks'
  no_kids map none none a b = tt
  no_kids map none (more y us) a b = absurd b
  no_kids map (more x ts) us a b = absurd a

  known_pointee : (to : TypeId) (c : ℕ) → PointeeKnown g (Some (def.Pointer Ref to)) (Some c) → Known g w.table (to.0 ∷ []) (more (cell_at g c) none)
  known_pointee to c (x, q, e) =
      subst (λ v. Known g w.table (to.0 ∷ []) (more v none)) (sym (ap cell_tree q)) (subst (λ u. Known g w.table (u ∷ []) (more x.val none)) e (cells c x q))

  known_pointee' : (to : TypeId) (c : ℕ) → PointeeKnown g' (Some (def.Pointer Ref to)) (Some c) → Known g' w.table (to.0 ∷ []) (more (cell_at g' c) none)
  known_pointee' to c (x, q, e) =
      subst (λ v. Known g' w.table (to.0 ∷ []) (more v none)) (sym (ap cell_tree q)) (subst (λ u. Known g' w.table (u ∷ []) (more x.val none)) e (cells' c x q))

  -- the pointer of a top-level reference pointer
  abbrev its_pointer : TypeId → ℕ → Pending
  its_pointer to c = record { home = home.Root i; node = 0; class = Ref; to = to.0; cell = Some c; agreements = [] }

  its_own : (k : Graph) (c : ℕ) (to : TypeId) (ks : Trees) → d ≡ Some (def.Pointer Ref to) → root_at k i ≡ node (tree.Ptr (Some c)) ks
      → Among (home_pointers w.table (home.Root i) t (root_at k i)) (its_pointer to c)
  its_own k c to ks ed e =
      subst (λ u. Among u (its_pointer to c)) (sym (ap (home_pointers w.table (home.Root i) t) e ∙ direct_pointer w.table (home.Root i) t c to ks ed)) (inl refl)

  -- as a pair of cells
  as_cells : (to : TypeId) (c c' : ℕ) (ks ks' : Trees) → d ≡ Some (def.Pointer Ref to)
      → root_at g i ≡ node (tree.Ptr (Some c)) ks → root_at g' i ≡ node (tree.Ptr (Some c')) ks'
      → Known g w.table (t ∷ []) (more (node (tree.Ptr (Some c)) ks) none) → Known g' w.table (t ∷ []) (more (node (tree.Ptr (Some c')) ks') none)
      → RootsAlike two w g g' i (standing_by g i t (node (tree.Ptr (Some c)) ks) (Some (c, to.0))) (standing_by g' i t (node (tree.Ptr (Some c')) ks') (Some (c', to.0)))
  as_cells to c c' ks ks' ed e e' a b =
      let z : Pair = record { class = Ref; of = to.0; left = c; right = c' } in
      let x : Known g w.table (to.0 ∷ []) (more (cell_at g c) none) = known_pointee to c (subst (λ u. PointeeKnown g u (Some c)) ed a.0.pointee) in
      let y : Known g' w.table (to.0 ∷ []) (more (cell_at g' c') none) = known_pointee' to c' (subst (λ u. PointeeKnown g' u (Some c')) ed b.0.pointee) in
      let types : (k : Trees) (q : ℕ) → child_types (type_at w.table t) (tree.Ptr (Some q)) k ≡ [] = λ k q. ap (λ u. child_types u (tree.Ptr (Some q)) k) ed in
      let n : Known g w.table [] ks = subst (λ u. Known g w.table u ks) (types ks c) (a.1 (λ f. cc)) in
      let n' : Known g' w.table [] ks' = subst (λ u. Known g' w.table u ks') (types ks' c') (b.1 (λ f. cc)) in
      record {
        of = refl;
        known = x;
        known' = y;
        pairs = z ∷ [];
        one = (tt, tt);
        lefts = refl;
        rights = refl;
        meet = λ xs. (z, inl refl, refl, refl);
        named = λ xs. (
          record {
            left = its_pointer to c;
            right = its_pointer to c';
            in_left = inside (its_pointer to c) (its_own g c to ks ed e);
            in_right = inside' (its_pointer to c') (its_own g' c' to ks' ed e');
            left_cell = refl;
            right_cell = refl;
            class = refl;
            node = refl;
            homes = refl;
            number = λ f. cc;
          },
          tt,
        );
        fit = λ m. (
          record {
            number = λ f. cc;
            known = x;
            known' = y;
            matched = m;
            left_cell = subst (λ u. PointeeKnown g u (Some c)) ed a.0.pointee;
            right_cell = subst (λ u. PointeeKnown g' u (Some c')) ed b.0.pointee;
          },
          tt,
        );
        closed = λ ys m. (m, tt);
        whole = λ ys among m. record {
          carried_by =
              subst (λ u. Matched (InMap ys) w.table (u ∷ []) (more (root_at g i) none) (more (root_at g' i) none)) (sym its_type)
              (subst (λ u. Matched (InMap ys) w.table (t ∷ []) (more u none) (more (root_at g' i) none)) (sym e)
              (subst (λ u. Matched (InMap ys) w.table (t ∷ []) (more (node (tree.Ptr (Some c)) ks) none) (more u none)) (sym e') (
                record { same = refl; cells = (z, among z (inl refl), refl, refl); read = λ f. cc; read' = λ f. cc },
                subst (λ u. Matched (InMap ys) w.table u ks ks') (sym (types ks c)) (no_kids ys ks ks' n n'),
                tt,
              )));
        };
      }

  by_labels : (l l' : Label) (ks ks' : Trees) → root_at g i ≡ node l ks → root_at g' i ≡ node l' ks'
      → Known g w.table (t ∷ []) (more (node l ks) none) → Known g' w.table (t ∷ []) (more (node l' ks') none)
      → (to : TypeId) → d ≡ Some (def.Pointer Ref to)
      → (l ≡ tree.Unread) ⊎ ((c : ℕ) × (l ≡ tree.Ptr (Some c))) → (l' ≡ tree.Unread) ⊎ ((c : ℕ) × (l' ≡ tree.Ptr (Some c)))
      → RootsMeet two w g g' i (at_left (node l ks)) (at_right (node l' ks'))
  by_labels l l' ks ks' e e' a b to ed (inl u) y =
      inl (subst (λ o. IsUnreadTree two w g g' (standing_by g i t (node l ks) o).val) (sym (ap (λ k. direct d (node k ks)) u ∙ unread_direct d ks)) u)
  by_labels l l' ks ks' e e' a b to ed (inr x) (inl u) =
      inr (inl (subst (λ o. IsUnreadTree two w g g' (standing_by g' i t (node l' ks') o).val) (sym (ap (λ k. direct d (node k ks')) u ∙ unread_direct d ks')) u))
  by_labels l l' ks ks' e e' a b to ed (inr (c, x)) (inr (c', y)) =
      let D : direct d (node l ks) ≡ Some (c, to.0) = ap₂ (λ u k. direct u (node k ks)) ed x in
      let D' : direct d (node l' ks') ≡ Some (c', to.0) = ap₂ (λ u k. direct u (node k ks')) ed y in
      let f : root_at g i ≡ node (tree.Ptr (Some c)) ks = e ∙ ap (λ k. node k ks) x in
      let f' : root_at g' i ≡ node (tree.Ptr (Some c')) ks' = e' ∙ ap (λ k. node k ks') y in
      let A = subst (λ k. Known g w.table (t ∷ []) (more (node k ks) none)) x a in
      let B = subst (λ k. Known g' w.table (t ∷ []) (more (node k ks') none)) y b in
      inr (inr (
      subst (λ o. RootsAlike two w g g' i (standing_by g i t (node l ks) o) (at_right (node l' ks'))) (sym D)
      (subst (λ o. RootsAlike two w g g' i (standing_by g i t (node l ks) (Some (c, to.0))) (standing_by g' i t (node l' ks') o)) (sym D')
      (as_cells to c c' ks ks' ed f f' A B))
      ))

  pub roots_meet_as : (v v' : Tree) → root_at g i ≡ v → root_at g' i ≡ v' → Known g w.table (t ∷ []) (more v none) → Known g' w.table (t ∷ []) (more v' none)
      → RootsMeet two w g g' i (at_left v) (at_right v')
  roots_meet_as (node l ks) (node l' ks') e e' a b = go (ref_or_not d)
    where
      go : ((to : TypeId) × (d ≡ Some (def.Pointer Ref to))) ⊎ ((v : Tree) → direct d v ≡ None) → RootsMeet two w g g' i (at_left (node l ks)) (at_right (node l' ks'))
      go (inl (to, ed)) =
          by_labels l l' ks ks' e e' a b to ed (ref_label g to l ks (subst (λ u. NodeKnown g u l ks) ed a.0)) (ref_label g' to l' ks' (subst (λ u. NodeKnown g' u l' ks') ed b.0))
      go (inr n) =
          inr (inr (
          subst (λ o. RootsAlike two w g g' i (standing_by g i t (node l ks) o) (at_right (node l' ks'))) (sym (n (node l ks)))
          (subst (λ o. RootsAlike two w g g' i (standing_by g i t (node l ks) None) (standing_by g' i t (node l' ks') o)) (sym (n (node l' ks')))
          (own_places (node l ks) (node l' ks') e e' a b))
          ))

module _ (two : Readings) (w : Setting) (g g' : Graph) (s : IsSound w g) (s' : IsSound w g') where
  past_left : (i : ℕ) → slice_get (root_list w) i ≡ None → IsUnreadTree two w g g' (standing_root w g i).val
  past_left i e =
      let f : root_at g i ≡ unread = ap or_unread (slice_get_past g.roots i (past (root_list w) i e (length g.roots) s.all_roots)) in
      subst (λ v. IsUnreadTree two w g g' (standing_by g i (root_type (slice_get (root_list w) i)) v (direct (type_at w.table (root_type (slice_get (root_list w) i))) v)).val) (sym f)
      (subst (λ o. IsUnreadTree two w g g' (standing_by g i (root_type (slice_get (root_list w) i)) unread o).val)
      (sym (unread_direct (type_at w.table (root_type (slice_get (root_list w) i))) none)) refl)

  pub roots_meet : (i : ℕ) → RootsMeet two w g g' i (standing_root w g i) (standing_root w g' i)
  roots_meet i = by_root (slice_get (root_list w) i) refl
    where
      by_root : (o : Option Root) → slice_get (root_list w) i ≡ o → RootsMeet two w g g' i (standing_root w g i) (standing_root w g' i)
      by_root None e = inl (past_left i e)
      by_root (Some r) e =
          subst (λ t. RootsMeet two w g g' i (standing_by g i t (root_at g i) (direct (type_at w.table t) (root_at g i)))
          (standing_by g' i t (root_at g' i) (direct (type_at w.table t) (root_at g' i)))) (sym (ap root_type e))
          (roots_meet_as two w g g' (known_cells w g s) (known_cells w g' s') i r.of (ap root_type e) (in_root w g s.all_roots i r e) (in_root w g' s'.all_roots i r e) (root_at g i)
          (root_at g' i) refl refl
          (known_roots w g s i r e) (known_roots w g' s' i r e))
