-- The cells of a graph that conforms are named in the order of deferral.
-- `w` is a setting, `g` a graph, `h` a home, `t` a type's number, `l` a label, `ks` and `ts` are values, `p` is a pointer, `c` a cell's number, `i` a root's index, `ds` are those that are due.
use Rattle.std.proofs.Common.{◌≡◌, inl, inr, ℕ, ◌+◌, ◌-◌, ◌<◌, ◌≤◌, zero, suc, true, List, [], ◌∷◌, ◌++◌, length, map, flat_map, drop, Option, Some, None, refl, ap, ap₂, sym, ◌∙◌, subst, arith}
use Rattle.std.proofs.Common.{append_assoc}
use Rattle.std.specs.List.{AllByRecursion, slice_get}
use Rattle.std.proofs.lemmas.List.{append-nil, map-append}
use Rattle.std.proofs.lemmas.Option.{same_Some}
use Rattle.std.proofs.lemmas.Grind.{flat_map-append}
use Rattle.nd_types.specs.declared.types.Operation.{Operation}
use Rattle.nd_types.specs.declared.types.TypeDef.{TypeDef}
use Rattle.nd_types.specs.declared.types.TypeDef.TheVariants as def
use Rattle.nd_types.specs.declared.types.Class.TheVariants.{Ref}
use Rattle.nd_types.specs.Table.{type_at}
use Rattle.nd_types.specs.Roots.{Root}
use Rattle.nd_value.specs.declared.value.Graph.{Graph}
use Rattle.nd_value.specs.declared.item.Home.{Home}
use Rattle.nd_value.specs.declared.item.Home.TheVariants as home
use Rattle.nd_value.specs.Tree as tree
use Rattle.nd_value.specs.Tree.{Tree, Trees, Label, node, none, more, count, node_count, is_pointer, cell_in, Referent}
use Rattle.nd_value.specs.Agreement.{Agreement, root_agreements}
use Rattle.nd_value.specs.Nodes.{TypedNode, nodes_of, home_nodes, child_types, child_agreements, first_agreements, rest_agreements}
use Rattle.nd_value.specs.Setting.{Setting, Among, root_list, root_at, or_unread, cell_home, cell_at, cell_tree}
use Rattle.nd_value.specs.Deferral.{Pending, pointer, pointer_by, home_pointers, Due, due_root, due_referent, due_roots, before_pipes, Step, Deferral, none_due, at_root, at_null, at_standing}
use Rattle.nd_value.specs.Deferral.{at_referent, IsPlaced, Placed_cells, Standing, standing_root, standing_by, root_type, direct, due_of, root_cell, AreFree}
use Rattle.nd_value.specs.Conforms.{HomeNode, in_home, root_nodes, cell_nodes, Conforms}
use Rattle.nd_value.specs.Misfit.{misfit_of, has_shape}
use Rattle.nd_value.specs.Canon.{IsCanon, target, named, own_cell, named_cells, canonical_number}
use Rattle.nd_value.specs.Fitting.{Fitting, IsFit, setting_beside}
use Rattle.nd_value.specs.Names.{cells_in, named_by}
use Rattle.nd_value.proofs.Apart.{all_left, all_right, all_map}
use Rattle.nd_value.proofs.DeferralExists.{direct_is, direct_pointer}
use Rattle.nd_value.proofs.DeferralLaws.{full_stands}
use Rattle.nd_value.proofs.DeferralBridge.{deferral_is}
use Rattle.nd_lemmas.proofs.Lists.{item_at, all_at}
use Rattle.nd_value.proofs.NodeFacts.{fit_node, fit_children, sound_conforming, orderly}
use Rattle.nd_value.proofs.Orderly.{Orderly, Pointee, Fits, PointerFits, pointees, cell_pointees}
use Rattle.nd_value.proofs.FewRoots.{few_before_pipes}
use Rattle.nd_grammar.specs.LegalSide.{IsLegalSide}
use Rattle.nd_grammar.proofs.LegalSides.{laid_out}
use Rattle.nd_grammar.proofs.next.Mapped.{pipe_pointers}
use Rattle.nd_grammar.proofs.next.NextStream.{IsLaidOut, IsPipeRoot, drop_at}
use Rattle.nd_graph.specs.Naming.{Naming, none_due as nothing_due, root_due, cell_due, stands_already as stood, AreNamed, cell_homes, root_homes}
use Rattle.nd_graph.specs.Canonical.{IsCanonical}
use Rattle.nd_graph.proofs.Alike.{one_naming}
use Rattle.nd_graph.proofs.Complete.{cells_both}
use Rattle.nd_grammar.proofs.reader.ReaderLeaves.{no_pointer_unread as no_pointer}
use Rattle.nd_grammar.proofs.conforming.StreamConforms.{due_all}

-- ## The cells that pointers name are those that labels name

abbrev cells_named : List Pending → List ℕ
cells_named ps = flat_map (λ p. target p.cell) ps

pointer_there : (d : Option TypeDef) (c : Option ℕ) (ks : Trees) (h : Home) (n : ℕ) (us : List Agreement) → has_shape d (tree.Ptr c) ks ≡ true
    → cells_named (pointer_by d true c h n us) ≡ target c
pointer_there (Some (def.Pointer class to)) c ks h n us e = append-nil (target c)
pointer_there None c ks h n us e = cc
pointer_there (Some (def.Prim p)) c ks h n us e = cc
pointer_there (Some _) c ks h n us e = cc

node_named : (d : Option TypeDef) (l : Label) (ks : Trees) (h : Home) (n : ℕ) (us : List Agreement) → has_shape d l ks ≡ true
    → cells_named (pointer_by d (is_pointer l) (cell_in l) h n us) ≡ target (cell_in l)
node_named d (tree.Ptr c) ks h n us e = pointer_there d c ks h n us e
node_named d (tree.Num z) ks h n us e = ap cells_named (no_pointer d h n us)
node_named d tree.Rec ks h n us e = ap cells_named (no_pointer d h n us)
node_named d (tree.Arr a o) ks h n us e = ap cells_named (no_pointer d h n us)
node_named d (tree.Text a os) ks h n us e = ap cells_named (no_pointer d h n us)
node_named d (tree.Union v) ks h n us e = ap cells_named (no_pointer d h n us)
node_named d (tree.Context a i) ks h n us e = ap cells_named (no_pointer d h n us)
node_named d tree.Pipe ks h n us e = ap cells_named (no_pointer d h n us)
node_named d tree.Unread ks h n us e = ap cells_named (no_pointer d h n us)

abbrev label_of : Tree → Label
label_of (node l ks) = l

module _ (w : Setting) (g : Graph) where
  abbrev IsGood : TypedNode → Type 0
  IsGood x = misfit_of w.table g x ≡ None

  -- whatever agreements govern them
  trees_named : (h : Home) (types : List ℕ) (us vs : List (List Agreement)) (n : ℕ) (ts : Trees) → count ts ≡ length types
      → AllByRecursion IsGood (nodes_of w.table types us n ts) → cells_named (flat_map (pointer w.table h) (nodes_of w.table types vs n ts)) ≡ cells_in ts
  trees_named h types us vs n none e a = refl
  trees_named h [] us vs n (more t ts) e a = cc
  trees_named h (t ∷ types) us vs n (more (node l ks) ts) e a =
      let d : Option TypeDef = type_at w.table t in
      let x : TypedNode = record { node = n; of = t; agreements = first_agreements us; label = l; kids = ks } in
      let f = fit_node w.table g x a.0 in
      let kids : List TypedNode = nodes_of w.table (child_types d l ks) (child_agreements d ks) (n + 1) ks in
      let rest : List TypedNode = nodes_of w.table types (rest_agreements us) (n + 1 + node_count ks) ts in
      let rest' : List TypedNode = nodes_of w.table types (rest_agreements vs) (n + 1 + node_count ks) ts in
      let own : List Pending = pointer_by d (is_pointer l) (cell_in l) h n (first_agreements vs) in
      let few : count ts ≡ length types = omega (arith, e) in
      let both : cells_named (flat_map (pointer w.table h) (kids ++ rest')) ≡ cells_in ks ++ cells_in ts =
      ap cells_named (flat_map-append (pointer w.table h) kids rest')
      ∙ flat_map-append (λ p. target p.cell) (flat_map (pointer w.table h) kids) (flat_map (pointer w.table h) rest')
      ∙ ap₂ (λ xs ys. xs ++ ys)
      (trees_named h (child_types d l ks) (child_agreements d ks) (child_agreements d ks) (n + 1) ks (fit_children d l ks f.shape f.arm) (all_left IsGood kids rest a.1))
      (trees_named h types (rest_agreements us) (rest_agreements vs) (n + 1 + node_count ks) ts few (all_right IsGood kids rest a.1)) in
      flat_map-append (λ p. target p.cell) own (flat_map (pointer w.table h) (kids ++ rest'))
      ∙ ap₂ (λ xs ys. xs ++ ys) (node_named d l ks h n (first_agreements vs) f.shape) both
      ∙ sym (cells_both l ks ts)

  abbrev IsGoodNode : HomeNode → Type 0
  IsGoodNode x = IsGood x.typed

  root_named : (i : ℕ) (rs : List Root) (vs : List Tree) (j : ℕ) (r : Root) (v : Tree) → slice_get rs j ≡ Some r → slice_get vs j ≡ Some v
      → AllByRecursion IsGoodNode (root_nodes w g i rs vs) → (h : Home) → cells_named (home_pointers w.table h r.of v) ≡ named_by v
  root_named i [] vs j r v e f a h = cc
  root_named i (q ∷ rs) [] j r v e f a h = cc
  root_named i (q ∷ rs) (u ∷ vs) zero r v e f a h =
      let s : q ≡ r = same_Some _ _ e in
      let t : u ≡ v = same_Some _ _ f in
      let own : List HomeNode = map (in_home (home.Root i)) (nodes_of w.table (q.of ∷ []) (root_agreements w g q.vars ∷ []) 0 (more u none)) in
      subst (λ (x : Root). cells_named (home_pointers w.table h x.of v) ≡ named_by v) s
      (subst (λ x. cells_named (home_pointers w.table h q.of x) ≡ named_by x) t
      (trees_named h (q.of ∷ []) (root_agreements w g q.vars ∷ []) [] 0 (more u none) refl
      (all_map IsGoodNode (in_home (home.Root i)) _ (all_left IsGoodNode own (root_nodes w g (i + 1) rs vs) a))))
  root_named i (q ∷ rs) (u ∷ vs) (suc j) r v e f a h =
      let own : List HomeNode = map (in_home (home.Root i)) (nodes_of w.table (q.of ∷ []) (root_agreements w g q.vars ∷ []) 0 (more u none)) in
      root_named (i + 1) rs vs j r v e f (all_right IsGoodNode own (root_nodes w g (i + 1) rs vs) a) h

  cell_named : (c : ℕ) (xs : List Referent) (j : ℕ) (x : Referent) → slice_get xs j ≡ Some x → AllByRecursion IsGoodNode (cell_nodes w.table c xs)
      → (h : Home) → cells_named (home_pointers w.table h x.of x.val) ≡ named_by x.val
  cell_named c [] j x e a h = cc
  cell_named c (y ∷ ys) zero x e a h =
      let own : List HomeNode = map (in_home (cell_home c)) (home_nodes w.table y.of y.val) in
      subst (λ (z : Referent). cells_named (home_pointers w.table h z.of z.val) ≡ named_by z.val) (same_Some _ _ e)
      (trees_named h (y.of ∷ []) [] [] 0 (more y.val none) refl (all_map IsGoodNode (in_home (cell_home c)) _ (all_left IsGoodNode own (cell_nodes w.table (c + 1) ys) a)))
  cell_named c (y ∷ ys) (suc j) x e a h =
      let own : List HomeNode = map (in_home (cell_home c)) (home_nodes w.table y.of y.val) in
      cell_named (c + 1) ys j x e (all_right IsGoodNode own (cell_nodes w.table (c + 1) ys) a) h

  -- ## NamingOrder

  module _ (k : Conforms w g) where
    roots_good : AllByRecursion IsGoodNode (root_nodes w g 0 (root_list w) g.roots)
    roots_good = all_left IsGoodNode (root_nodes w g 0 (root_list w) g.roots) (cell_nodes w.table 1 g.cells) k.local

    cells_good : AllByRecursion IsGoodNode (cell_nodes w.table 1 g.cells)
    cells_good = all_right IsGoodNode (root_nodes w g 0 (root_list w) g.roots) (cell_nodes w.table 1 g.cells) k.local

    order : Orderly w g
    order = orderly w g (sound_conforming w g k)

    fit_roots : AllByRecursion (Fits g w.table) (root_nodes w g 0 (root_list w) g.roots)
    fit_roots = all_left (Fits g w.table) (root_nodes w g 0 (root_list w) g.roots) (cell_nodes w.table 1 g.cells) order.fit

    fit_cells : AllByRecursion (Fits g w.table) (cell_nodes w.table 1 g.cells)
    fit_cells = all_right (Fits g w.table) (root_nodes w g 0 (root_list w) g.roots) (cell_nodes w.table 1 g.cells) order.fit

    -- the homes that are due
    abbrev homes_due : List Due → List Home
    homes_due [] = []
    homes_due (due_root i ∷ ds) = home.Root i ∷ homes_due ds
    homes_due (due_referent p ∷ ds) = cell_homes (target p.cell) ++ homes_due ds

    abbrev IsDue : Due → Type 0
    IsDue (due_root i) = i < length (root_list w)
    IsDue (due_referent p) = Pointee g p

    abbrev cells_done : Placed_cells → List ℕ
    cells_done done = map (λ d. d.1) done

    placed_among : (done : Placed_cells) (c : ℕ) → IsPlaced done c → Among (cells_done done) c
    placed_among [] c h = absurd h
    placed_among (d ∷ ds) c (inl e) = inl e
    placed_among (d ∷ ds) c (inr h) = inr (placed_among ds c h)

    among_placed : (done : Placed_cells) (c : ℕ) → Among (cells_done done) c → IsPlaced done c
    among_placed [] c h = absurd h
    among_placed (d ∷ ds) c (inl e) = inl e
    among_placed (d ∷ ds) c (inr h) = inr (among_placed ds c h)

    referents_due : (ps : List Pending) (ds : List Due) → homes_due (map due_referent ps ++ ds) ≡ cell_homes (cells_named ps) ++ homes_due ds
    referents_due [] ds = refl
    referents_due (p ∷ ps) ds =
        ap (λ u. cell_homes (target p.cell) ++ u) (referents_due ps ds)
        ∙ sym (append_assoc (cell_homes (target p.cell)) (cell_homes (cells_named ps)) (homes_due ds))
        ∙ ap (λ u. u ++ homes_due ds) (sym (map-append cell_home (target p.cell) (cells_named ps)))

    are_due : (ps : List Pending) (ds : List Due) → AllByRecursion (Pointee g) ps → AllByRecursion IsDue ds → AllByRecursion IsDue (map due_referent ps ++ ds)
    are_due [] ds a b = b
    are_due (p ∷ ps) ds a b = (a.0, are_due ps ds a.1 b)

    -- a cell that a pointer names: what it names, and the pointers that become due
    referent_named : (p : Pending) (c : ℕ) → Pointee g p → p.cell ≡ Some c → cells_named (home_pointers w.table (cell_home c) p.to (cell_at g c)) ≡ named_by (cell_at g c)
    referent_named p zero f e = let (x, t, s) = f zero e in cc
    referent_named p (suc j) f e =
        let (x, t, s) = f (suc j) e in
        subst (λ o. cells_named (home_pointers w.table (cell_home (suc j)) p.to (cell_tree o)) ≡ named_by (cell_tree o)) (sym t)
        (subst (λ u. cells_named (home_pointers w.table (cell_home (suc j)) u x.val) ≡ named_by x.val) s (cell_named 1 g.cells j x t cells_good (cell_home (suc j))))

    referent_due : (p : Pending) (c : ℕ) → Pointee g p → p.cell ≡ Some c → AllByRecursion (Pointee g) (home_pointers w.table (cell_home c) p.to (cell_at g c))
    referent_due p zero f e = let (x, t, s) = f zero e in cc
    referent_due p (suc j) f e =
        let (x, t, s) = f (suc j) e in
        subst (λ o. AllByRecursion (Pointee g) (home_pointers w.table (cell_home (suc j)) p.to (cell_tree o))) (sym t)
        (subst (λ u. AllByRecursion (Pointee g) (home_pointers w.table (cell_home (suc j)) u x.val)) s
        (cell_pointees g w.table 1 g.cells j x t fit_cells (cell_home (suc j))))

    value_due : (i : ℕ) (rs : List Root) (vs : List Tree) (j : ℕ) (r : Root) (v : Tree) → slice_get rs j ≡ Some r → slice_get vs j ≡ Some v
        → AllByRecursion (Fits g w.table) (root_nodes w g i rs vs) → (h : Home) → AllByRecursion (Pointee g) (home_pointers w.table h r.of v) × PointerFits w.table g r.of (label_of v)
    value_due i [] vs j r v e f a h = cc
    value_due i (q ∷ rs) [] j r v e f a h = cc
    value_due i (q ∷ rs) (u ∷ vs) zero r v e f a h =
        let own : List HomeNode = map (in_home (home.Root i)) (nodes_of w.table (q.of ∷ []) (root_agreements w g q.vars ∷ []) 0 (more u none)) in
        let b = all_map (Fits g w.table) (in_home (home.Root i)) _ (all_left (Fits g w.table) own (root_nodes w g (i + 1) rs vs) a) in
        subst (λ (x : Root). AllByRecursion (Pointee g) (home_pointers w.table h x.of v) × PointerFits w.table g x.of (label_of v)) (same_Some _ _ e)
        (subst (λ x. AllByRecursion (Pointee g) (home_pointers w.table h q.of x) × PointerFits w.table g q.of (label_of x)) (same_Some _ _ f)
        (pointees g w.table h (q.of ∷ []) (root_agreements w g q.vars ∷ []) [] 0 (more u none) b, first_fits u b))
      where
        first_fits : (u : Tree) → AllByRecursion (λ x. PointerFits w.table g x.of x.label) (nodes_of w.table (q.of ∷ []) (root_agreements w g q.vars ∷ []) 0 (more u none))
            → PointerFits w.table g q.of (label_of u)
        first_fits (node l ks) b = b.0
    value_due i (q ∷ rs) (u ∷ vs) (suc j) r v e f a h =
        let own : List HomeNode = map (in_home (home.Root i)) (nodes_of w.table (q.of ∷ []) (root_agreements w g q.vars ∷ []) 0 (more u none)) in
        value_due (i + 1) rs vs j r v e f (all_right (Fits g w.table) own (root_nodes w g (i + 1) rs vs) a) h

    -- the root of an index, and its value
    module _ (i : ℕ) (r : Root) (v : Tree) (er : slice_get (root_list w) i ≡ Some r) (ev : slice_get g.roots i ≡ Some v) where
      value_is : root_at g i ≡ v
      value_is = ap or_unread ev

      stands_as : standing_root w g i ≡ standing_by g i r.of v (direct (type_at w.table r.of) v)
      stands_as = ap₂ (λ t u. standing_by g i t u (direct (type_at w.table t) u)) (ap root_type er) (ap or_unread ev)

      names_are : (h : Home) → cells_named (home_pointers w.table h r.of v) ≡ named_by v
      names_are h = root_named 0 (root_list w) g.roots i r v er ev roots_good h

      its_due : (h : Home) → AllByRecursion (Pointee g) (home_pointers w.table h r.of v) × PointerFits w.table g r.of (label_of v)
      its_due h = value_due 0 (root_list w) g.roots i r v er ev fit_roots h

      module _ (done : Placed_cells) (due : List Due) (ns : List ℕ) (a : AllByRecursion IsDue due) where
        abbrev Later : Standing → Type 0
        Later x = AllByRecursion IsDue (due_of w.table x ++ due) → Naming g (cells_done (root_cell x.home ++ done)) (homes_due (due_of w.table x ++ due)) ns

        abbrev Now : Standing → Type 0
        Now x = Naming g (cells_done done) (home.Root i ∷ homes_due due) ((own_cell x.home ++ named w.table x) ++ ns)

        abbrev StandsNow : Standing → Type 0
        StandsNow x = AreFree (root_cell x.home) done → Later x → Now x

        plain_stands : StandsNow (standing_by g i r.of v None)
        plain_stands free later =
            let ps : List Pending = home_pointers w.table (home.Root i) r.of v in
            let d : Naming g (cells_done done) (homes_due (map due_referent ps ++ due)) ns = later (are_due ps due (its_due (home.Root i)).0 a) in
            let names : cells_named ps ≡ named_by (root_at g i) = names_are (home.Root i) ∙ ap named_by (sym value_is) in
            let d' : Naming g (cells_done done) (cell_homes (named_by (root_at g i)) ++ homes_due due) ns =
            subst (λ u. Naming g (cells_done done) u ns) (referents_due ps due ∙ ap (λ u. cell_homes u ++ homes_due due) names) d in
            subst (λ u. Naming g (cells_done done) (home.Root i ∷ homes_due due) (u ++ ns)) (sym names) (root_due i d')

        direct_stands : (c t : ℕ) → direct (type_at w.table r.of) v ≡ Some (c, t) → StandsNow (standing_by g i r.of v (Some (c, t)))
        direct_stands c t e free later = by_value v refl
          where
            by_value : (u : Tree) → v ≡ u → Now (standing_by g i r.of v (Some (c, t)))
            by_value (node l ks) eu =
                let fits : PointerFits w.table g r.of l = subst (λ x. PointerFits w.table g r.of (label_of x)) eu (its_due (home.Root i)).1 in
                let (to, ed, el, et) = direct_is (type_at w.table r.of) l ks c t (subst (λ x. direct (type_at w.table r.of) x ≡ Some (c, t)) eu e) fits.no_null in
                let p : Pending = record { home = home.Root i; node = 0; class = Ref; to = to.0; cell = Some c; agreements = [] } in
                let value : v ≡ node (tree.Ptr (Some c)) ks = eu ∙ ap (λ x. node x ks) el in
                let own : home_pointers w.table (home.Root i) r.of v ≡ p ∷ [] =
                ap (home_pointers w.table (home.Root i) r.of) value ∙ direct_pointer w.table (home.Root i) r.of c to ks ed in
                let fit : Pointee g p = (subst (AllByRecursion (Pointee g)) own (its_due (home.Root i)).0).0 in
                let one : named_by (root_at g i) ≡ c ∷ [] = ap named_by value_is ∙ sym (names_are (home.Root i)) ∙ ap cells_named own in
                let qs : List Pending = home_pointers w.table (cell_home c) t (cell_at g c) in
                let qs_are : qs ≡ home_pointers w.table (cell_home c) to.0 (cell_at g c) = ap (λ u. home_pointers w.table (cell_home c) u (cell_at g c)) et in
                let names : cells_named qs ≡ named_by (cell_at g c) = ap cells_named qs_are ∙ referent_named p c fit refl in
                let d : Naming g (c ∷ cells_done done) (homes_due (map due_referent qs ++ due)) ns =
                later (are_due qs due (subst (AllByRecursion (Pointee g)) (sym qs_are) (referent_due p c fit refl)) a) in
                let d' : Naming g (c ∷ cells_done done) (cell_homes (named_by (cell_at g c)) ++ homes_due due) ns =
                subst (λ u. Naming g (c ∷ cells_done done) u ns) (referents_due qs due ∙ ap (λ u. cell_homes u ++ homes_due due) names) d in
                let next : Naming g (cells_done done) (cell_home c ∷ homes_due due) (named_by (cell_at g c) ++ ns) = cell_due c (λ m. free.0 (among_placed done c m)) d' in
                let whole : Naming g (cells_done done) (home.Root i ∷ homes_due due) (named_by (root_at g i) ++ (named_by (cell_at g c) ++ ns)) =
                root_due i (subst (λ u. Naming g (cells_done done) (cell_homes u ++ homes_due due) (named_by (cell_at g c) ++ ns)) (sym one) next) in
                subst (λ u. Naming g (cells_done done) (home.Root i ∷ homes_due due) u) (ap₂ (λ x y. x ++ (y ++ ns)) one (sym names)) whole

        root_stands_now : StandsNow (standing_root w g i)
        root_stands_now = subst StandsNow (sym stands_as) (by_direct (direct (type_at w.table r.of) v) refl)
          where
            by_direct : (o : Option (ℕ × ℕ)) → direct (type_at w.table r.of) v ≡ o → StandsNow (standing_by g i r.of v o)
            by_direct None e = plain_stands
            by_direct (Some q) e = direct_stands q.0 q.1 e

    -- the order of deferral is the order of naming
    naming : {done : Placed_cells} {due : List Due} {steps : List Step} → Deferral w g done due steps → AllByRecursion IsDue due
        → Naming g (cells_done done) (homes_due due) (named_cells w g steps)
    naming none_due a = nothing_due
    naming (at_root {done = done} {i = i} {due = due} {steps = steps} free d) a =
        let (r, er) = item_at (root_list w) i a.0 in
        let all = k.all_roots in
        let l = a.0 in
        let (v, ev) = item_at g.roots i (omega (arith, all, l)) in
        root_stands_now i r v er ev done due (named_cells w g steps) a.1 free (λ b. naming d b)
    naming (at_null {done = done} {p = p} {due = due} {steps = steps} e d) a =
        subst (λ o. Naming g (cells_done done) (cell_homes (target o) ++ homes_due due) (named_cells w g steps)) (sym e) (naming d a.1)
    naming (at_standing {done = done} {p = p} {due = due} {steps = steps} c e full there d) a =
        subst (λ o. Naming g (cells_done done) (cell_homes (target o) ++ homes_due due) (named_cells w g steps)) (sym e)
        (stood c (placed_among done c (full_stands done c there)) (naming d a.1))
    naming (at_referent {done = done} {p = p} {due = due} {steps = steps} c e free d) a =
        let ns : List ℕ = named_cells w g steps in
        let qs : List Pending = home_pointers w.table (cell_home c) p.to (cell_at g c) in
        let names : cells_named qs ≡ named_by (cell_at g c) = referent_named p c a.0 e in
        let d' : Naming g (c ∷ cells_done done) (cell_homes (named_by (cell_at g c)) ++ homes_due due) ns =
        subst (λ u. Naming g (c ∷ cells_done done) u ns) (referents_due qs due ∙ ap (λ u. cell_homes u ++ homes_due due) names)
        (naming d (are_due qs due (referent_due p c a.0 e) a.1)) in
        subst (λ o. Naming g (cells_done done) (cell_homes (target o) ++ homes_due due) (cells_named qs ++ ns)) (sym e)
        (subst (λ u. Naming g (cells_done done) (cell_home c ∷ homes_due due) (u ++ ns)) (sym names) (cell_due c (λ m. free (among_placed done c m)) d'))

    roots_homes : (i n : ℕ) → homes_due (due_roots i n) ≡ root_homes i n
    roots_homes i zero = refl
    roots_homes i (suc n) = ap (λ u. home.Root i ∷ u) (roots_homes (suc i) n)

    -- ## Pipes come last, and name none

    later_homes : {st ns : List ℕ} {due : List Home} (extra : List Home) → Naming g st due ns → ((s : List ℕ) → Naming g s extra []) → Naming g st (due ++ extra) ns
    later_homes {st = st} extra nothing_due f = f st
    later_homes {st = st} extra (root_due {ns = ns} {due = due} i d) f =
        root_due i (subst (λ u. Naming g st u ns) (append_assoc (cell_homes (named_by (root_at g i))) due extra) (later_homes extra d f))
    later_homes {st = st} extra (cell_due {ns = ns} {due = due} c n d) f =
        cell_due c n (subst (λ u. Naming g (c ∷ st) u ns) (append_assoc (cell_homes (named_by (cell_at g c))) due extra) (later_homes extra d f))
    later_homes extra (stood c m d) f = stood c m (later_homes extra d f)

    module _ (side : IsLegalSide w) where
      laid : IsLaidOut w
      laid = laid_out w side

      pipe_names_none : (i : ℕ) → before_pipes (root_list w) ≤ i → i < length (root_list w) → named_by (root_at g i) ≡ []
      pipe_names_none i lo hi =
          let n : ℕ = before_pipes (root_list w) in
          let (r, er) = item_at (root_list w) i hi in
          let all = k.all_roots in
          let (v, ev) = item_at g.roots i (omega (arith, all, hi)) in
          let at : n + (i - n) ≡ i = omega (arith, lo) in
          let pipe : IsPipeRoot w.table r =
          all_at (IsPipeRoot w.table) (drop n (root_list w)) (i - n) r laid.pipes (drop_at n (root_list w) (i - n) ∙ ap (slice_get (root_list w)) at ∙ er) in
          ap named_by (ap or_unread ev) ∙ sym (names_are i r v er ev (home.Root i))
          ∙ ap cells_named (pipe_pointers w.table (home.Root i) r.of pipe.elem v pipe.type_is (laid.elements r.of pipe.elem pipe.type_is))

      pipes_name_none : (i n : ℕ) (s : List ℕ) → before_pipes (root_list w) ≤ i → i + n ≤ length (root_list w) → Naming g s (root_homes i n) []
      pipes_name_none i zero s lo hi = nothing_due
      pipes_name_none i (suc n) s lo hi =
          let none_named : named_by (root_at g i) ≡ [] = pipe_names_none i lo (omega (arith, hi)) in
          let d : Naming g s (cell_homes (named_by (root_at g i)) ++ root_homes (suc i) n) [] =
          subst (λ u. Naming g s (cell_homes u ++ root_homes (suc i) n) []) (sym none_named) (pipes_name_none (suc i) n s (omega (arith, lo)) (omega (arith, hi))) in
          subst (λ u. Naming g s (home.Root i ∷ root_homes (suc i) n) (u ++ [])) none_named (root_due i d)

      parted : (i a b n : ℕ) → n ≡ a + b → root_homes i n ≡ root_homes i a ++ root_homes (i + a) b
      parted i zero b n e = ap₂ root_homes (omega arith) (e ∙ omega arith)
      parted i (suc a) b zero e = absurd (omega (arith, e))
      parted i (suc a) b (suc n) e =
          ap (λ u. home.Root i ∷ u) (parted (suc i) a b n (omega (arith, e)) ∙ ap (λ j. root_homes (suc i) a ++ root_homes j b) (omega arith))

      named_all : (steps : List Step) → Deferral w g [] (due_roots 0 (before_pipes (root_list w))) steps → AreNamed g (named_cells w g steps)
      named_all steps d =
          let n : ℕ = before_pipes (root_list w) in
          let all : length g.roots ≡ length (root_list w) = k.all_roots in
          let few : n ≤ length (root_list w) = few_before_pipes (root_list w) in
          let rest : ℕ = length (root_list w) - n in
          let whole : length g.roots ≡ n + rest = omega (arith, all, few) in
          let first : Naming g [] (root_homes 0 n) (named_cells w g steps) =
          subst (λ u. Naming g [] u (named_cells w g steps)) (roots_homes 0 n) (naming d (due_all IsDue 0 n (λ j h. (let below : 0 + j < length (root_list w) = omega (arith, few, h) in below)))) in
          subst (λ u. Naming g [] u (named_cells w g steps)) (sym (parted 0 n rest (length g.roots) whole))
          (later_homes (root_homes (0 + n) rest) first (λ s. pipes_name_none (0 + n) rest s (omega arith) (omega (arith, few))))

pub named_in_order : (w : Setting) → IsLegalSide w → (g : Graph) → Conforms w g → (steps : List Step) → Deferral w g [] (due_roots 0 (before_pipes (root_list w))) steps
    → AreNamed g (named_cells w g steps)
named_in_order w side g k steps d = named_all w g k side steps d

get_among : {X : Type 0} (xs : List X) (i : ℕ) (x : X) → slice_get xs i ≡ Some x → Among xs x
get_among [] i x e = cc
get_among (y ∷ xs) zero x e = inl (sym (same_Some _ _ e))
get_among (y ∷ xs) (suc i) x e = inr (get_among xs i x e)

pub canon_of_fit : (f c : Fitting) → IsFit f → IsCanonical f c → (o : Operation) → slice_get f.interface.operations f.op ≡ Some o
    → IsCanon (setting_beside f.interface o f.side f.given) f.graph c.graph
canon_of_fit f c k d o there =
    let w : Setting = setting_beside f.interface o f.side f.given in
    let same_operation : k.operation ≡ o = same_Some _ _ (sym k.is_there ∙ there) in
    let conforms : Conforms w f.graph = subst (λ p. Conforms (setting_beside f.interface p f.side f.given) f.graph) same_operation k.conforms in
    let side : IsLegalSide w = record { operations = f.interface.operations; legal = f.interface.legal; operation = get_among f.interface.operations f.op o there } in
    let (steps, deferral) = deferral_is w f.graph (sound_conforming w f.graph conforms) in
    let names : d.names ≡ named_cells w f.graph steps = one_naming f.graph d.named (named_in_order w side f.graph conforms steps deferral) in
    record {
      steps = steps;
      deferral = deferral;
      same = d.same;
      numbered = λ n lo hi. d.numbered n lo hi ∙ ap (λ ns. canonical_number ns n) names;
    }
