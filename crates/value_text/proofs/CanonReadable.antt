-- The canonical form of a graph that conforms is in a text: its nodes have the forms of a text, and each cell is named before its line.
-- `w` is a setting, `g` a graph that conforms, `h` its canonical form, `m` carries the numbers of g's cells to those of h.
use Rattle.std.proofs.Common.{◌≡◌, ◌⊎◌, inl, inr, ℕ, zero, suc, ◌+◌, ◌<◌, ◌≤◌, ◌^◌, Bool, true, false, List, [], ◌∷◌, ◌++◌, length, map, Option, Some, None, refl, ap, sym, ◌∙◌, subst, arith, get_or}
use Rattle.std.specs.Prelude.{flat_map}
use Rattle.std.specs.List.{list_all, slice_get, AllByRecursion}
use Rattle.std.proofs.lemmas.Bool.{eqb-true, eq-eqb, both_ways, cases_lt}
use Rattle.std.proofs.lemmas.Option.{same_Some, slice_get-get_or, slice_get_within}
use Rattle.nd_types.specs.Table.{type_at}
use Rattle.nd_types.specs.Legal.{has_small_values}
use Rattle.nd_types.specs.Roots.{Root}
use Rattle.nd_value.specs.declared.value.Graph.{Graph}
use Rattle.nd_value.specs.declared.item.Home.{Home}
use Rattle.nd_value.specs.declared.item.Home.TheVariants as home
use Rattle.nd_value.specs.Tree as tree
use Rattle.nd_value.specs.Tree.{Tree, Trees, node, none, more, Referent, trees, count}
use Rattle.nd_value.specs.Setting.{Setting, Among, root_list, cell_home, cell_of_number}
use Rattle.nd_value.specs.Nodes.{TypedNode, nodes_of, governed_nodes, home_nodes}
use Rattle.nd_value.specs.Agreement.{root_agreements}
use Rattle.nd_value.specs.Deferral.{Pending, pointer, home_pointers}
use Rattle.nd_value.specs.Conforms.{HomeNode, in_home, root_nodes, cell_nodes, all_nodes, root_pointers, Conforms}
use Rattle.nd_value.specs.Canon.{IsCanon, canonical_number, named_cells, renumbered}
use Rattle.nd_value.specs.Misfit.{misfit_of, has_machine_values}
use Rattle.nd_value.proofs.Apart.{all_weaker, all_left, all_right, all_append, all_map, all_among, among_left, among_right}
use Rattle.nd_value.proofs.NodeFacts.{fit_node, all_of_list}
use Rattle.nd_value.proofs.Orderly.{Pointee, PointerFits, pointees}
use Rattle.nd_grammar.specs.LegalSide.{IsLegalSide}
use Rattle.nd_grammar.proofs.RenumberedEntries.{count_same, carried, PendLike, AllPend, pointers_alike}
use Rattle.nd_grammar.proofs.PlainStreams.{Suffix, suffix_next, suffix_first, suffix_whole}
use Rattle.text_grammar.specs.declared.version.Version.{Version}
use Rattle.text_grammar.specs.Reads.{IsReadable, AreNamed, first_type, is_cell, has_text_form}
use Rattle.value_text.specs.Short.{is_short, HasShortNumbers}
use Rattle.nd_graph.proofs.Images.{first_tree, rest_trees, CameFrom, came_from}
use Rattle.value_text.proofs.CarriedNodes.{Fine, Stands, nodes_carried}
use Rattle.value_text.proofs.NamedBefore.{IsSource, from_root, from_cell, source_of, numbered_lower, is_named}
use Rattle.nd_lemmas.proofs.Lists.{list_all_from as to_list}

-- ## The first pointer that names a cell

first_of : (ps : List Pending) (d t : ℕ) → ((q : Pending) → Among ps q → q.cell ≡ Some d → q.to ≡ t) → (p : Pending) → Among ps p → p.cell ≡ Some d → first_type ps d ≡ Some t
first_of [] d t typed p a e = absurd a
first_of (q ∷ ps) d t typed p a e = by (is_cell q.cell d) refl (λ f. first_of ps d t (λ x y. typed x (inr y)) p f e) a where
  names : (o : Option ℕ) → is_cell o d ≡ true → o ≡ Some d
  names None h = cc
  names (Some b) h = ap Some (eqb-true b d h)

  by : (b : Bool) → is_cell q.cell d ≡ b → (Among ps p → first_type ps d ≡ Some t) → Among (q ∷ ps) p → elim b [ true ↦ Some q.to | false ↦ first_type ps d ] ≡ Some t
  by true h again a = ap Some (typed q (inl refl) (names q.cell h))
  by false h again (inr f) = again f
  by false h again (inl f) =
      let n : is_cell q.cell d ≡ true = ap (λ (x : Pending). is_cell x.cell d) (sym f) ∙ ap (λ o. is_cell o d) e ∙ eq-eqb d d refl in
      absurd (both_ways (is_cell q.cell d) h n)

-- a pointer of g is one of h, its cell carried
pend_among : (m : ℕ → ℕ) (ps qs : List Pending) → AllPend m ps qs → (p : Pending) → Among ps p → (q : Pending) × Among qs q × (q.cell ≡ carried m p.cell)
pend_among m [] qs a p f = absurd f
pend_among m (x ∷ ps) [] a p f = absurd a
pend_among m (x ∷ ps) (y ∷ qs) a p (inl e) = (y, inl refl, a.0.cell ∙ ap (λ (z : Pending). carried m z.cell) (sym e))
pend_among m (x ∷ ps) (y ∷ qs) a p (inr f) = let r = pend_among m ps qs a.1 p f in (r.0, inr r.1, r.2)

-- and back
pend_back : (m : ℕ → ℕ) (ps qs : List Pending) → AllPend m ps qs → (q : Pending) → Among qs q → (p : Pending) × Among ps p × PendLike m p q
pend_back m [] [] a q f = absurd f
pend_back m [] (y ∷ qs) a q f = absurd a
pend_back m (x ∷ ps) [] a q f = absurd f
pend_back m (x ∷ ps) (y ∷ qs) a q (inl e) = (x, inl refl, subst (PendLike m x) (sym e) a.0)
pend_back m (x ∷ ps) (y ∷ qs) a q (inr f) = let r = pend_back m ps qs a.1 q f in (r.0, inr r.1, r.2)

pend_both : (m : ℕ → ℕ) (ps qs ps' qs' : List Pending) → AllPend m ps qs → AllPend m ps' qs' → AllPend m (ps ++ ps') (qs ++ qs')
pend_both m [] [] ps' qs' a b = b
pend_both m [] (q ∷ qs) ps' qs' a b = absurd a
pend_both m (p ∷ ps) [] ps' qs' a b = absurd a
pend_both m (p ∷ ps) (q ∷ qs) ps' qs' a b = (a.0, pend_both m ps qs ps' qs' a.1 b)

to_map : {X Y : Type 0} (P : Y → Type 0) (f : X → Y) (xs : List X) → AllByRecursion (λ x. P (f x)) xs → AllByRecursion P (map f xs)
to_map P f [] a = tt
to_map P f (x ∷ xs) a = (a.0, to_map P f xs a.1)

trees_count : (ts : List Tree) → count (trees ts) ≡ length ts
trees_count [] = refl
trees_count (t ∷ ts) = ap suc (trees_count ts)

module _ (ver : Version) (w : Setting) (side : IsLegalSide w) (g h : Graph) (c : Conforms w g) (canon : IsCanon w g h) where
  abbrev m : ℕ → ℕ
  m = canon.same.image

  within : (k : ℕ) → 0 < k → k ≤ length g.cells → (0 < m k) × (m k < 2 ^ 32)
  within k some few = let r = canon.same.within k some few in (r.0, omega (arith, r.1, c.few_cells))

  abbrev small : list_all has_small_values w.table ≡ true
  small = side.legal.enumerators

  abbrev FineNode : TypedNode → Type 0
  FineNode x = Fine w.table small ver g m within x

  abbrev StandsNode : TypedNode → Type 0
  StandsNode x = Stands w.table small ver g m within x

  abbrev FineHome : HomeNode → Type 0
  FineHome x = FineNode x.typed

  abbrev StandsHome : HomeNode → Type 0
  StandsHome x = StandsNode x.typed

  fine_both : (xs : List HomeNode) → AllByRecursion (λ x. misfit_of w.table g x.typed ≡ None) xs → AllByRecursion (λ x. has_machine_values x.typed.label ≡ true) xs → AllByRecursion FineHome xs
  fine_both [] a b = tt
  fine_both (x ∷ xs) a b = ((fit_node w.table g x.typed a.0, b.0), fine_both xs a.1 b.1)

  fine : AllByRecursion FineHome (all_nodes w g)
  fine = fine_both (all_nodes w g) c.local (all_of_list (λ x. has_machine_values x.typed.label) (all_nodes w g) c.machine_values)

  root_fine : AllByRecursion FineHome (root_nodes w g 0 (root_list w) g.roots)
  root_fine = all_left FineHome (root_nodes w g 0 (root_list w) g.roots) (cell_nodes w.table 1 g.cells) fine

  cell_fine_at : (n : ℕ) (xs : List Referent) (i : ℕ) (x : Referent) → slice_get xs i ≡ Some x → AllByRecursion FineHome (cell_nodes w.table n xs)
      → AllByRecursion FineNode (home_nodes w.table x.of x.val)
  cell_fine_at n [] i x e a = cc
  cell_fine_at n (y ∷ ys) zero x e a =
      subst (λ u. AllByRecursion FineNode (home_nodes w.table u.of u.val)) (same_Some _ _ e)
      (all_map FineHome (in_home (cell_home n)) (home_nodes w.table y.of y.val) (all_left FineHome (map (in_home (cell_home n)) (home_nodes w.table y.of y.val)) (cell_nodes w.table (n + 1) ys) a))
  cell_fine_at n (y ∷ ys) (suc i) x e a =
      cell_fine_at (n + 1) ys i x e (all_right FineHome (map (in_home (cell_home n)) (home_nodes w.table y.of y.val)) (cell_nodes w.table (n + 1) ys) a)

  cell_fine : (i : ℕ) (x : Referent) → slice_get g.cells i ≡ Some x → AllByRecursion FineNode (home_nodes w.table x.of x.val)
  cell_fine i x e = cell_fine_at 1 g.cells i x e (all_right FineHome (root_nodes w g 0 (root_list w) g.roots) (cell_nodes w.table 1 g.cells) fine)

  -- ## Forms

  roots_stand : (i : ℕ) (rs : List Root) (vs us : List Tree) → renumbered m (trees vs) ≡ trees us → AllByRecursion FineHome (root_nodes w g i rs vs)
      → AllByRecursion StandsHome (root_nodes w h i rs us)
  roots_stand i [] vs us e a = tt
  roots_stand i (r ∷ rs) vs [] e a = tt
  roots_stand i (r ∷ rs) [] (u ∷ us) e a = cc
  roots_stand i (r ∷ rs) (node l ks ∷ vs) (u ∷ us) e a =
      let v : Tree = node l ks in
      let G : List TypedNode = governed_nodes w.table r.of (root_agreements w g r.vars) v in
      let H : List TypedNode = governed_nodes w.table r.of (root_agreements w h r.vars) u in
      let first : renumbered m (more v none) ≡ more u none = ap (λ t. more (first_tree t) none) e in
      let rest : renumbered m (trees vs) ≡ trees us = ap rest_trees e in
      let here : AllByRecursion StandsNode H =
      subst (λ (t : Trees). AllByRecursion StandsNode (nodes_of w.table (r.of ∷ []) (root_agreements w h r.vars ∷ []) 0 t)) first
      (nodes_carried w.table small ver g m within (r.of ∷ []) (root_agreements w g r.vars ∷ []) (root_agreements w h r.vars ∷ []) 0 0 (more v none)
      (all_map FineHome (in_home (home.Root i)) G (all_left FineHome (map (in_home (home.Root i)) G) (root_nodes w g (i + 1) rs vs) a))) in
      all_append StandsHome (map (in_home (home.Root i)) H) (root_nodes w h (i + 1) rs us) (to_map StandsHome (in_home (home.Root i)) H here)
      (roots_stand (i + 1) rs vs us rest (all_right FineHome (map (in_home (home.Root i)) G) (root_nodes w g (i + 1) rs vs) a))

  -- the cell of g that a cell of h is
  abbrev CellOf : ℕ → Referent → Type 0
  CellOf = CameFrom g h canon.same

  cell_back : (j : ℕ) (y : Referent) → slice_get h.cells j ≡ Some y → CellOf j y
  cell_back = came_from g h canon.same

  cells_stand : (n j : ℕ) (ys : List Referent) → Suffix h.cells j ys → AllByRecursion StandsHome (cell_nodes w.table n ys)
  cells_stand n j [] x = tt
  cells_stand n j (y ∷ ys) x =
      let o = cell_back j y (suffix_first h.cells j y ys x) in
      let here : AllByRecursion StandsNode (home_nodes w.table y.of y.val) =
      subst (λ t. AllByRecursion StandsNode (home_nodes w.table t y.val)) o.of
      (subst (λ (t : Trees). AllByRecursion StandsNode (nodes_of w.table (o.cell.of ∷ []) [] 0 t)) o.val
      (nodes_carried w.table small ver g m within (o.cell.of ∷ []) [] [] 0 0 (more o.cell.val none) (cell_fine o.index o.cell o.there))) in
      all_append StandsHome (map (in_home (cell_home n)) (home_nodes w.table y.of y.val)) (cell_nodes w.table (n + 1) ys)
      (to_map StandsHome (in_home (cell_home n)) (home_nodes w.table y.of y.val) here)
      (cells_stand (n + 1) (suc j) ys (suffix_next h.cells j y ys x))

  stand : AllByRecursion StandsHome (all_nodes w h)
  stand =
      all_append StandsHome (root_nodes w h 0 (root_list w) h.roots) (cell_nodes w.table 1 h.cells)
      (roots_stand 0 (root_list w) g.roots h.roots canon.same.roots root_fine) (cells_stand 1 0 h.cells (suffix_whole h.cells))

  many_roots : length h.roots ≡ length (root_list w)
  many_roots = sym (trees_count h.roots) ∙ ap count (sym canon.same.roots) ∙ count_same m (trees g.roots) ∙ trees_count g.roots ∙ c.all_roots

  -- ## Pointers

  abbrev root_ps : List Pending
  root_ps = root_pointers w.table 0 (root_list w) g.roots

  abbrev root_qs : List Pending
  root_qs = root_pointers w.table 0 (root_list w) h.roots

  roots_alike : (i : ℕ) (rs : List Root) (vs us : List Tree) → renumbered m (trees vs) ≡ trees us → AllPend m (root_pointers w.table i rs vs) (root_pointers w.table i rs us)
  roots_alike i [] vs us e = tt
  roots_alike i (r ∷ rs) [] [] e = tt
  roots_alike i (r ∷ rs) [] (u ∷ us) e = cc
  roots_alike i (r ∷ rs) (node l ks ∷ vs) [] e = cc
  roots_alike i (r ∷ rs) (node l ks ∷ vs) (u ∷ us) e =
      let v : Tree = node l ks in
      let first : renumbered m (more v none) ≡ more u none = ap (λ t. more (first_tree t) none) e in
      let rest : renumbered m (trees vs) ≡ trees us = ap rest_trees e in
      pend_both m (home_pointers w.table (home.Root i) r.of v) (home_pointers w.table (home.Root i) r.of u) (root_pointers w.table (i + 1) rs vs) (root_pointers w.table (i + 1) rs us)
      (subst (λ (t : Trees). AllPend m (home_pointers w.table (home.Root i) r.of v) (flat_map (pointer w.table (home.Root i)) (nodes_of w.table (r.of ∷ []) [] 0 t))) first
      (pointers_alike m w.table (home.Root i) (home.Root i) (r.of ∷ []) [] 0 0 (more v none)))
      (roots_alike (i + 1) rs vs us rest)

  cells_alike : (x y : Referent) (b d : Home) → x.of ≡ y.of → renumbered m (more x.val none) ≡ more y.val none → AllPend m (home_pointers w.table b x.of x.val) (home_pointers w.table d y.of y.val)
  cells_alike x y b d e f =
      subst (λ t. AllPend m (home_pointers w.table b x.of x.val) (home_pointers w.table d t y.val)) e
      (subst (λ (t : Trees). AllPend m (home_pointers w.table b x.of x.val) (flat_map (pointer w.table d) (nodes_of w.table (x.of ∷ []) [] 0 t))) f
      (pointers_alike m w.table b d (x.of ∷ []) [] 0 0 (more x.val none)))

  pointer_fits : (xs : List TypedNode) → AllByRecursion FineNode xs → AllByRecursion (λ x. PointerFits w.table g x.of x.label) xs
  pointer_fits xs a = all_weaker FineNode (λ x. PointerFits w.table g x.of x.label) (λ x f. record { cell = f.0.cell; pointee = f.0.pointee; no_null = f.0.no_null }) xs a

  root_pointees : (i : ℕ) (rs : List Root) (vs : List Tree) → AllByRecursion FineHome (root_nodes w g i rs vs) → AllByRecursion (Pointee g) (root_pointers w.table i rs vs)
  root_pointees i [] vs a = tt
  root_pointees i (r ∷ rs) [] a = tt
  root_pointees i (r ∷ rs) (v ∷ vs) a =
      let G : List TypedNode = governed_nodes w.table r.of (root_agreements w g r.vars) v in
      all_append (Pointee g) (home_pointers w.table (home.Root i) r.of v) (root_pointers w.table (i + 1) rs vs)
      (pointees g w.table (home.Root i) (r.of ∷ []) (root_agreements w g r.vars ∷ []) [] 0 (more v none)
      (pointer_fits G (all_map FineHome (in_home (home.Root i)) G (all_left FineHome (map (in_home (home.Root i)) G) (root_nodes w g (i + 1) rs vs) a))))
      (root_pointees (i + 1) rs vs (all_right FineHome (map (in_home (home.Root i)) G) (root_nodes w g (i + 1) rs vs) a))

  -- a pointer of h has the type of the cell that it names
  abbrev IsTyped : Pending → Type 0
  IsTyped q = (j : ℕ) (y : Referent) → q.cell ≡ Some (suc j) → slice_get h.cells j ≡ Some y → q.to ≡ y.of

  typed_by : (p q : Pending) → PendLike m p q → Pointee g p → IsTyped q
  typed_by p q l pt j y e there = by p.cell refl where
    by : (o : Option ℕ) → p.cell ≡ o → q.to ≡ y.of
    by None f = let no : None ≡ Some (suc j) = sym (l.cell ∙ ap (carried m) f) ∙ e in cc
    by (Some k) f = named k (pt k f) (let i : Some (m k) ≡ Some (suc j) = sym (l.cell ∙ ap (carried m) f) ∙ e in same_Some _ _ i) where
      named : (k : ℕ) → (x : Referent) × (cell_of_number g k ≡ Some x) × (x.of ≡ p.to) → m k ≡ suc j → q.to ≡ y.of
      named zero x i = let no = x.1 in cc
      named (suc b) x i = l.to ∙ sym x.2 ∙ (canon.same.cells b j x.0 y x.1 i there).0

  root_typed : (q : Pending) → Among root_qs q → IsTyped q
  root_typed q a =
      let r = pend_back m root_ps root_qs (roots_alike 0 (root_list w) g.roots h.roots canon.same.roots) q a in
      typed_by r.0 q r.2 (all_among (Pointee g) root_ps r.0 r.1 (root_pointees 0 (root_list w) g.roots root_fine))

  cell_typed : (j : ℕ) (y : Referent) → slice_get h.cells j ≡ Some y → (d : Home) (q : Pending) → Among (home_pointers w.table d y.of y.val) q → IsTyped q
  cell_typed j y e d q a =
      let o = cell_back j y e in
      let ps : List Pending = home_pointers w.table d o.cell.of o.cell.val in
      let r = pend_back m ps (home_pointers w.table d y.of y.val) (cells_alike o.cell y d d o.of o.val) q a in
      typed_by r.0 q r.2
      (all_among (Pointee g) ps r.0 r.1
      (pointees g w.table d (o.cell.of ∷ []) [] [] 0 (more o.cell.val none) (pointer_fits (home_nodes w.table o.cell.of o.cell.val) (cell_fine o.index o.cell o.there))))

  -- ## Names

  abbrev L : List ℕ
  L = named_cells w g canon.steps

  -- what is before the line of the j-th cell
  record AreBefore (j : ℕ) (before : List Pending) : Type 0 where
    pub roots : (q : Pending) → Among root_qs q → Among before q
    pub cells : (e : ℕ) (y : Referent) (q : Pending) → e < j → slice_get h.cells e ≡ Some y → Among (home_pointers w.table (cell_home (suc e)) y.of y.val) q → Among before q
    pub typed : (q : Pending) → Among before q → IsTyped q

  number_within : (k : ℕ) (x : Referent) → cell_of_number g k ≡ Some x → (0 < k) × (k ≤ length g.cells)
  number_within zero x e = cc
  number_within (suc i) x e = let b = slice_get_within g.cells i x e in (omega arith, omega (arith, b))

  first_named : (j : ℕ) (y : Referent) → slice_get h.cells j ≡ Some y → (before : List Pending) → AreBefore j before → first_type before (suc j) ≡ Some y.of
  first_named j y e before b = by (source_of w side g c canon.steps canon.deferral (suc o.index) (is_named L (suc o.index) positive)) where
    o : CellOf j y
    o = cell_back j y e

    inside : (0 < suc o.index) × (suc o.index ≤ length g.cells)
    inside = let l = slice_get_within g.cells o.index o.cell o.there in (omega arith, omega (arith, l))

    numbered : canonical_number L (suc o.index) ≡ suc j
    numbered = sym (canon.numbered (suc o.index) inside.0 inside.1) ∙ o.image

    positive : 0 < canonical_number L (suc o.index)
    positive = omega (arith, numbered)

    found : (q : Pending) → Among before q → q.cell ≡ Some (suc j) → first_type before (suc j) ≡ Some y.of
    found q a f = first_of before (suc j) y.of (λ x a' f'. b.typed x a' j y f' e) q a f

    by_cell : (d : ℕ) (x : Referent) (p : Pending) → m d < suc j → cell_of_number g d ≡ Some x → Among (home_pointers w.table (cell_home d) x.of x.val) p → p.cell ≡ Some (suc o.index)
        → (i : ℕ) → d ≡ suc i → (t : ℕ) → m d ≡ suc t → first_type before (suc j) ≡ Some y.of
    by_cell d x p low there a f i di t mt =
        let z : Referent = record { of = 0; val = node tree.Unread none } in
        let few = slice_get_within h.cells j y e in
        let Y : Referent = get_or h.cells t z in
        let thereY : slice_get h.cells t ≡ Some Y = slice_get-get_or h.cells t z (omega (arith, low, mt, few)) in
        let same = canon.same.cells i t x Y (ap (cell_of_number g) (sym di) ∙ there) (ap m (sym di) ∙ mt) thereY in
        let r = pend_among m (home_pointers w.table (cell_home d) x.of x.val) (home_pointers w.table (cell_home (suc t)) Y.of Y.val)
        (cells_alike x Y (cell_home d) (cell_home (suc t)) same.0 same.1) p a in
        found r.0 (b.cells t Y r.0 (omega (arith, low, mt)) thereY r.1) (r.2 ∙ ap (carried m) f ∙ ap Some o.image)

    by : IsSource w side g c L (suc o.index) → first_type before (suc j) ≡ Some y.of
    by (from_root p a f) =
        let r = pend_among m root_ps root_qs (roots_alike 0 (root_list w) g.roots h.roots canon.same.roots) p a in
        found r.0 (b.roots r.0 r.1) (r.2 ∙ ap (carried m) f ∙ ap Some o.image)
    by (from_cell d x p A B le md nk mk there a f) =
        let v = number_within d x there in
        let u = canon.same.within d v.0 v.1 in
        let low : m d < suc j = let z = numbered_lower w side g c L A B d (suc o.index) le md nk mk in omega (arith, z, numbered, canon.numbered d v.0 v.1) in
        predecessor d v.0 (λ i di. predecessor (m d) u.0 (λ t mt. by_cell d x p low there a f i di t mt))
      where
        predecessor : {X : Type 0} (n : ℕ) → 0 < n → ((i : ℕ) → n ≡ suc i → X) → X
        predecessor zero some f = absurd (omega (arith, some))
        predecessor (suc i) some f = f i refl

  are_named : (j n : ℕ) (ys : List Referent) → n ≡ suc j → Suffix h.cells j ys → (before : List Pending) → AreBefore j before → AreNamed w.table before n ys
  are_named j n [] e x before b = tt
  are_named j n (y ∷ ys) e x before b =
      let there : slice_get h.cells j ≡ Some y = suffix_first h.cells j y ys x in
      let own : List Pending = home_pointers w.table (cell_home n) y.of y.val in (
        ap (first_type before) e ∙ first_named j y there before b,
        are_named (suc j) (n + 1) ys (omega (arith, e)) (suffix_next h.cells j y ys x) (before ++ own) (record {
          roots = λ q a. among_left before own q (b.roots q a);
          cells = λ i z q low at a. earlier i z q low at a (cases_lt i j);
          typed = λ q a. either q a;
        }),
      )
    where
      there' : slice_get h.cells j ≡ Some y
      there' = suffix_first h.cells j y ys x

      earlier : (i : ℕ) (z : Referent) (q : Pending) → i < suc j → slice_get h.cells i ≡ Some z → Among (home_pointers w.table (cell_home (suc i)) z.of z.val) q → (i < j) ⊎ (j ≤ i)
          → Among (before ++ home_pointers w.table (cell_home n) y.of y.val) q
      earlier i z q low at a (inl less) = among_left before (home_pointers w.table (cell_home n) y.of y.val) q (b.cells i z q less at a)
      earlier i z q low at a (inr same_or_more) =
          let same : i ≡ j = omega (arith, low, same_or_more) in
          let one : z ≡ y = same_Some _ _ (sym at ∙ ap (slice_get h.cells) same ∙ there') in
          among_right before (home_pointers w.table (cell_home n) y.of y.val) q
          (subst (λ k. Among (home_pointers w.table (cell_home k) y.of y.val) q) (ap suc same ∙ sym e)
          (subst (λ u. Among (home_pointers w.table (cell_home (suc i)) u.of u.val) q) one a))

      in_either : (xs zs : List Pending) (q : Pending) → Among (xs ++ zs) q → Among xs q ⊎ Among zs q
      in_either [] zs q a = inr a
      in_either (u ∷ xs) zs q (inl f) = inl (inl f)
      in_either (u ∷ xs) zs q (inr f) = elim (in_either xs zs q f) [ inl k ↦ inl (inr k) | inr k ↦ inr k ]

      either : (q : Pending) → Among (before ++ home_pointers w.table (cell_home n) y.of y.val) q → IsTyped q
      either q a = elim (in_either before (home_pointers w.table (cell_home n) y.of y.val) q a) [ inl k ↦ b.typed q k | inr k ↦ cell_typed j y there' (cell_home n) q k ]

  pub readable : IsReadable ver w h
  readable = record {
    all_roots = many_roots;
    forms = to_list (λ x. has_text_form ver w.table (type_at w.table x.typed.of) x.typed.label x.typed.kids) (all_nodes w h)
        (all_weaker StandsHome (λ x. has_text_form ver w.table (type_at w.table x.typed.of) x.typed.label x.typed.kids ≡ true) (λ x s. s.0) (all_nodes w h) stand);
    named = are_named 0 1 h.cells refl (suffix_whole h.cells) root_qs (record { roots = λ q a. a; cells = λ i z q low. absurd (omega (arith, low)); typed = root_typed });
  }

  pub short : HasShortNumbers w h
  short = to_list (λ x. is_short x.typed.label) (all_nodes w h) (all_weaker StandsHome (λ x. is_short x.typed.label ≡ true) (λ x s. s.1) (all_nodes w h) stand)
