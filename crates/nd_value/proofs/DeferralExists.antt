-- A graph whose cells are shared by full pointers alone has an order of deferral.
use Rattle.std.proofs.Common.{◌≡◌, ℕ, ◌+◌, ◌<◌, ◌≤◌, zero, suc, Bool, true, false, List, [], ◌∷◌, ◌++◌, length, Option, Some, None, refl, ap, ap₂, sym, ◌∙◌, inl, inr, ◌⊎◌, arith, subst, append_assoc}
use Rattle.std.proofs.Common.{length-append}
use Rattle.std.specs.Prelude.{map, flat_map}
use Rattle.std.specs.List.{slice_get, AllByRecursion}
use Rattle.std.proofs.lemmas.Option.{same_Some}
use Rattle.std.proofs.lemmas.Grind.{flat_map-append}
use Rattle.std.proofs.lemmas.List.{append-nil}
use Rattle.nd_types.specs.declared.types.TypeDef.{TypeDef}
use Rattle.nd_types.specs.declared.types.TypeId.{TypeId}
use Rattle.nd_types.specs.declared.types.TypeDef.TheVariants as def
use Rattle.nd_types.specs.declared.types.Class.{Class}
use Rattle.nd_types.specs.declared.types.Class.TheVariants.{Ref, Unique, Full}
use Rattle.nd_types.specs.Table.{Table, type_at}
use Rattle.nd_types.specs.Roots.{Root}
use Rattle.nd_value.specs.declared.value.Graph.{Graph}
use Rattle.nd_value.specs.declared.item.Home.{Home}
use Rattle.nd_value.specs.declared.item.Home.TheVariants as home
use Rattle.nd_value.specs.Tree as tree
use Rattle.nd_value.specs.Tree.{Tree, Trees, node, none, more, Label, Referent}
use Rattle.nd_value.specs.Agreement.{Agreement, root_agreements}
use Rattle.nd_value.specs.Setting.{Setting, Among, root_list, root_at, or_unread, cell_at, cell_tree, cell_of_number, cell_home}
use Rattle.nd_value.specs.Nodes.{nodes_of}
use Rattle.nd_value.specs.Deferral.{Pending, home_pointers, pointer, Due, due_root, due_referent, due_roots, Step, root_stands, referent_stands, stands_already, Deferral, none_due, at_root, at_null}
use Rattle.nd_value.specs.Deferral.{at_standing, at_referent, IsPlaced, IsPlacedFull, Placed_cells, Standing, standing_root, standing_by, standing_cell, root_type, direct, due_of, root_cell, AreFree}
use Rattle.nd_value.specs.Conforms.{root_nodes, root_pointers, cell_nodes, cell_pointers, all_nodes, all_pointers, in_home, AllEarlier, ShareOnlyIfFull}
use Rattle.nd_value.specs.Misfit.{is_no_null_ref}
use Rattle.nd_value.proofs.Apart.{all_append, all_left, all_right, all_map, among_left, among_right, earlier_meets, moved}
use Rattle.nd_value.proofs.Orderly.{Orderly, PointerFits, Pointee, Fits, pointees, pointee_of_cell, cell_pointees}
use Rattle.nd_value.proofs.Waiting.{stands, stands-true, stands-false, waiting, parted}

turned : (p q : Pending) → ShareOnlyIfFull p q → ShareOnlyIfFull q p
turned p q m c e f = let r = m c f e in (r.1, r.0)

-- a top-level reference pointer
pub direct_is : (d : Option TypeDef) (l : Label) (ks : Trees) (c t : ℕ) → direct d (node l ks) ≡ Some (c, t) → is_no_null_ref d l ≡ true
    → (to : TypeId) × (d ≡ Some (def.Pointer Ref to)) × (l ≡ tree.Ptr (Some c)) × (t ≡ to.0)
direct_is (Some (def.Pointer Ref to)) (tree.Ptr (Some b)) ks c t e n =
    let s : (b, to.0) ≡ (c, t) = same_Some _ _ e in
    (to, refl, ap (λ u. tree.Ptr (Some u.0)) s, sym (ap (λ u. u.1) s))
direct_is (Some (def.Pointer Ref to)) (tree.Ptr None) ks c t e n = cc
direct_is (Some (def.Pointer Ref to)) _ ks c t e n = cc
direct_is (Some (def.Pointer Unique to)) l ks c t e n = cc
direct_is (Some (def.Pointer Full to)) l ks c t e n = cc
direct_is None l ks c t e n = cc
direct_is (Some _) l ks c t e n = cc

pub no_nodes : (table : Table) (ags : List (List Agreement)) (n : ℕ) (ks : Trees) → nodes_of table [] ags n ks ≡ []
no_nodes table ags n none = refl
no_nodes table ags n (more k ks) = refl

-- its pointer is the only one of its home
pub direct_pointer : (table : Table) (h : Home) (t c : ℕ) (to : TypeId) (ks : Trees) → type_at table t ≡ Some (def.Pointer Ref to)
    → home_pointers table h t (node (tree.Ptr (Some c)) ks)
    ≡ record { home = h; node = 0; class = Ref; to = to.0; cell = Some c; agreements = [] } ∷ []
direct_pointer table h t c to ks e = rw e (rw (no_nodes table [] 1 ks) refl)

module _ (w : Setting) (g : Graph) (cells_fit : AllByRecursion (Fits g w.table) (cell_nodes w.table 1 g.cells)) where
  abbrev of_cell : ℕ × Referent → List Pending
  of_cell r = home_pointers w.table (cell_home r.0) r.1.of r.1.val

  -- the pointers of the cells that do not stand
  abbrev unmet : Placed_cells → List Pending
  unmet done = flat_map of_cell (waiting done 1 g.cells)

  -- each cell that stands was named by a pointer that was taken
  abbrev Named : Placed_cells → List Pending → Type 0
  Named done taken = (c : ℕ) → IsPlaced done c → (q : Pending) × Among taken q × (q.cell ≡ Some c) × (q.class ≡ Full → IsPlacedFull done c)

  abbrev Steps : Placed_cells → List Pending → ℕ → ℕ → Type 0
  Steps done ps i n = (steps : List Step) × Deferral w g done (map due_referent ps ++ due_roots i n) steps

  abbrev AreRoots : ℕ → List Root → List Tree → Type 0
  AreRoots i rs vs = ((j : ℕ) → slice_get (root_list w) (i + j) ≡ slice_get rs j) × ((j : ℕ) → slice_get g.roots (i + j) ≡ slice_get vs j)

  -- there are steps for these pointers and the roots from i on, where fewer than k cells and roots are left
  abbrev Claim : ℕ → Type 0
  Claim k =
      (done : Placed_cells) (taken ps : List Pending) (i n : ℕ) (rs : List Root) (vs : List Tree)
      → AllByRecursion (Pointee g) ps
      → AllEarlier ShareOnlyIfFull (taken ++ (ps ++ (unmet done ++ root_pointers w.table i rs vs)))
      → Named done taken
      → n ≤ length rs → length vs ≡ length rs → AreRoots i rs vs
      → AllByRecursion (Fits g w.table) (root_nodes w g i rs vs)
      → length (waiting done 1 g.cells) + n < k
      → Steps done ps i n

  module _ (done : Placed_cells) (taken : List Pending) (named : Named done taken) (p : Pending) where
    named_more : Named done (taken ++ p ∷ [])
    named_more c h = let (q, a, e, f) = named c h in (q, among_left taken (p ∷ []) q a, e, f)

    named_cell : (c : ℕ) → p.cell ≡ Some c → Named ((p.class, c) ∷ done) (taken ++ p ∷ [])
    named_cell c e b (inl h) = (p, among_right taken (p ∷ []) p (inl refl), e ∙ ap Some (sym h), λ f. inl (f, h))
    named_cell c e b (inr h) = let (q, a, e', f) = named b h in (q, among_left taken (p ∷ []) q a, e', λ k. inr (f k))

    -- a pointer to a cell that stands is full, and so was the one for which it stands
    both_full : (c : ℕ) (rest : List Pending) → AllEarlier ShareOnlyIfFull (taken ++ p ∷ rest) → p.cell ≡ Some c → IsPlaced done c
        → (p.class ≡ Full) × IsPlacedFull done c
    both_full c rest apart e h =
        let (q, a, e', f) = named c h in
        let m = earlier_meets ShareOnlyIfFull taken p rest q a apart c e' e in
        (m.1, f m.0)

  after : (taken : List Pending) (p : Pending) (rest : List Pending) → AllEarlier ShareOnlyIfFull (taken ++ p ∷ rest) → AllEarlier ShareOnlyIfFull ((taken ++ p ∷ []) ++ rest)
  after taken p rest a = subst (AllEarlier ShareOnlyIfFull) (sym (append_assoc taken (p ∷ []) rest)) a

  five : (ts ps xs ys zs : List Pending) (us : List Pending) → ts ++ (ps ++ ((xs ++ (ys ++ zs)) ++ us)) ≡ ts ++ ((ps ++ xs) ++ (ys ++ (zs ++ us)))
  five ts ps xs ys zs us = simp append_assoc

  five' : (ts ps xs ys zs : List Pending) (us : List Pending) → ts ++ (ys ++ ((ps ++ xs) ++ (zs ++ us))) ≡ ts ++ ((ys ++ ps) ++ ((xs ++ zs) ++ us))
  five' ts ps xs ys zs us = simp append_assoc

  -- a cell comes to stand: its pointers are due before the others, and it does not wait any more
  opened : (done : Placed_cells) (k : Class) (c : ℕ) (x : Referent) (taken ps us : List Pending) → cell_of_number g c ≡ Some x → stands done c ≡ false
      → AllEarlier ShareOnlyIfFull (taken ++ (ps ++ (unmet done ++ us)))
      → AllEarlier ShareOnlyIfFull (taken ++ ((of_cell (c, x) ++ ps) ++ (unmet ((k, c) ∷ done) ++ us)))
      × (suc (length (waiting ((k, c) ∷ done) 1 g.cells)) ≡ length (waiting done 1 g.cells))
  opened done k zero x taken ps us e s a = cc
  opened done k (suc i) x taken ps us e s a =
      let c : ℕ = suc i in
      let (front, back, f, b) = parted done k c 1 g.cells i x e (omega arith) s in
      let F : List Pending = flat_map of_cell front in
      let B : List Pending = flat_map of_cell back in
      let X : List Pending = of_cell (c, x) in
      let now : unmet done ≡ F ++ (X ++ B) = ap (flat_map of_cell) f ∙ flat_map-append of_cell front ((c, x) ∷ back) in
      let then : unmet ((k, c) ∷ done) ≡ F ++ B = ap (flat_map of_cell) b ∙ flat_map-append of_cell front back in
      let start : AllEarlier ShareOnlyIfFull (taken ++ ((ps ++ F) ++ (X ++ (B ++ us)))) =
      subst (AllEarlier ShareOnlyIfFull) (ap (λ u. taken ++ (ps ++ (u ++ us))) now ∙ five taken ps F X B us) a in
      let end : AllEarlier ShareOnlyIfFull (taken ++ ((X ++ ps) ++ ((F ++ B) ++ us))) =
      subst (AllEarlier ShareOnlyIfFull) (five' taken ps F X B us) (moved ShareOnlyIfFull turned taken (ps ++ F) X (B ++ us) start) in (
        subst (λ u. AllEarlier ShareOnlyIfFull (taken ++ ((X ++ ps) ++ (u ++ us)))) (sym then) end,
        ap (λ u. suc (length u)) b ∙ ap suc (length-append front back) ∙ omega arith ∙ sym (ap length f ∙ length-append front ((c, x) ∷ back)),
      )

  joined_due : (xs ps : List Pending) (ds : List Due) → map due_referent xs ++ (map due_referent ps ++ ds) ≡ map due_referent (xs ++ ps) ++ ds
  joined_due [] ps ds = refl
  joined_due (x ∷ xs) ps ds = ap (λ u. due_referent x ∷ u) (joined_due xs ps ds)

  cell_value : (c : ℕ) (x : Referent) → cell_of_number g c ≡ Some x → cell_at g c ≡ x.val
  cell_value c x e = ap cell_tree e

  -- the pointers of a cell, where it stands for a pointer
  its_pointers : (c t : ℕ) (x : Referent) → cell_of_number g c ≡ Some x → x.of ≡ t → home_pointers w.table (cell_home c) t (cell_at g c) ≡ of_cell (c, x)
  its_pointers c t x e f = ap₂ (λ u v. home_pointers w.table (cell_home c) u v) (sym f) (cell_value c x e)

  cell_fits : (c : ℕ) (x : Referent) → cell_of_number g c ≡ Some x → AllByRecursion (Pointee g) (of_cell (c, x))
  cell_fits zero x e = cc
  cell_fits (suc i) x e = cell_pointees g w.table 1 g.cells i x e cells_fit (cell_home (suc i))

  module _ (k : ℕ) (less : Claim k) (i n : ℕ) (rs : List Root) (vs : List Tree)
      (enough : n ≤ length rs) (as_many : length vs ≡ length rs) (are_roots : AreRoots i rs vs)
      (roots_fit : AllByRecursion (Fits g w.table) (root_nodes w g i rs vs)) where
    abbrev U : List Pending
    U = root_pointers w.table i rs vs

    -- the referent of a pointer stands: c is its cell
    referent_step : (done : Placed_cells) (taken : List Pending) (p : Pending) (ps : List Pending)
        → AllByRecursion (Pointee g) (p ∷ ps)
        → AllEarlier ShareOnlyIfFull (taken ++ (p ∷ ps ++ (unmet done ++ U)))
        → Named done taken
        → length (waiting done 1 g.cells) + n < suc k
        → (c : ℕ) → p.cell ≡ Some c → stands done c ≡ false → Steps done (p ∷ ps) i n
    referent_step done taken p ps typed apart named fuel c e s =
        let (x, ex, et) = typed.0 c e in
        let (apart', count) = opened done p.class c x (taken ++ p ∷ []) ps U ex s (after taken p (ps ++ (unmet done ++ U)) apart) in
        let typed' : AllByRecursion (Pointee g) (of_cell (c, x) ++ ps) = all_append (Pointee g) (of_cell (c, x)) ps (cell_fits c x ex) typed.1 in
        let (steps, d) = less ((p.class, c) ∷ done) (taken ++ p ∷ []) (of_cell (c, x) ++ ps) i n rs vs typed' apart'
        (named_cell done taken named p c e) enough as_many are_roots roots_fit (omega arith) in
        let d' : Deferral w g ((p.class, c) ∷ done) (map due_referent (of_cell (c, x)) ++ (map due_referent ps ++ due_roots i n)) steps =
        subst (λ u. Deferral w g ((p.class, c) ∷ done) u steps) (sym (joined_due (of_cell (c, x)) ps (due_roots i n))) d in
        let d'' : Deferral w g ((p.class, c) ∷ done) (due_of w.table (standing_cell g p c) ++ (map due_referent ps ++ due_roots i n)) steps =
        subst (λ u. Deferral w g ((p.class, c) ∷ done) (map due_referent u ++ (map due_referent ps ++ due_roots i n)) steps)
        (sym (its_pointers c p.to x ex et)) d' in
        (referent_stands p c ∷ steps, at_referent c e (stands-false done c s) d'')

    abbrev Pending_claim : List Pending → Type 0
    Pending_claim ps =
        (done : Placed_cells) (taken : List Pending)
        → AllByRecursion (Pointee g) ps
        → AllEarlier ShareOnlyIfFull (taken ++ (ps ++ (unmet done ++ U)))
        → Named done taken
        → length (waiting done 1 g.cells) + n < suc k
        → Steps done ps i n

    pub pending_step : (none_left : Pending_claim []) → (ps : List Pending) → Pending_claim ps
    pending_step none_left [] done taken typed apart named fuel = none_left done taken typed apart named fuel
    pending_step none_left (p ∷ ps) done taken typed apart named fuel = by_cell p.cell refl (pending_step none_left ps)
      where
        rest : List Pending
        rest = ps ++ (unmet done ++ U)

        by_cell : (o : Option ℕ) → p.cell ≡ o → Pending_claim ps → Steps done (p ∷ ps) i n
        by_cell None e claim =
            let (steps, d) = claim done (taken ++ p ∷ []) typed.1 (after taken p rest apart) (named_more done taken named p) fuel in
            (steps, at_null e d)
        by_cell (Some c) e claim = by_standing (stands done c) refl
          where
            by_standing : (b : Bool) → stands done c ≡ b → Steps done (p ∷ ps) i n
            by_standing true s =
                let (full, f) = both_full done taken named p c rest apart e (stands-true done c s) in
                let (steps, d) = claim done (taken ++ p ∷ []) typed.1 (after taken p rest apart) (named_more done taken named p) fuel in
                (stands_already p c ∷ steps, at_standing c e full f d)
            by_standing false s = referent_step done taken p ps typed apart named fuel c e s

  module _ (k : ℕ) (less : Claim k) (i n : ℕ) (r : Root) (rs : List Root) (v : Tree) (vs : List Tree)
      (enough : n ≤ length rs) (as_many : length vs ≡ length rs) (are_roots : AreRoots i (r ∷ rs) (v ∷ vs))
      (roots_fit : AllByRecursion (Fits g w.table) (root_nodes w g i (r ∷ rs) (v ∷ vs))) where
    abbrev own : List Pending
    own = home_pointers w.table (home.Root i) r.of v

    abbrev others : List Pending
    others = root_pointers w.table (suc i) rs vs

    next_roots : AreRoots (suc i) rs vs
    next_roots = (
      (λ j. ap (slice_get (root_list w)) (omega arith) ∙ are_roots.0 (suc j)),
      (λ j. ap (slice_get g.roots) (omega arith) ∙ are_roots.1 (suc j)),
    )

    next_index : i + 1 ≡ suc i
    next_index = omega arith

    next_fit : AllByRecursion (Fits g w.table) (root_nodes w g (suc i) rs vs)
    next_fit = subst (λ u. AllByRecursion (Fits g w.table) (root_nodes w g u rs vs)) next_index (all_right _ _ _ roots_fit)

    own_fit : AllByRecursion (λ x. PointerFits w.table g x.of x.label) (nodes_of w.table (r.of ∷ []) (root_agreements w g r.vars ∷ []) 0 (more v none))
    own_fit = all_map (Fits g w.table) (in_home (home.Root i)) _ (all_left _ _ _ roots_fit)

    stands_as : standing_root w g i ≡ standing_by g i r.of v (direct (type_at w.table r.of) v)
    stands_as =
        let e : slice_get (root_list w) i ≡ Some r = ap (slice_get (root_list w)) (omega arith) ∙ are_roots.0 0 in
        let f : slice_get g.roots i ≡ Some v = ap (slice_get g.roots) (omega arith) ∙ are_roots.1 0 in
        ap₂ (λ t u. standing_by g i t u (direct (type_at w.table t) u)) (ap root_type e) (ap or_unread f)

    module _ (done : Placed_cells) (taken : List Pending) (named : Named done taken)
        (apart : AllEarlier ShareOnlyIfFull (taken ++ (own ++ (unmet done ++ others))))
        (fuel : length (waiting done 1 g.cells) + suc n < suc k) where
      started : (x : Standing) (steps : List Step) → standing_root w g i ≡ x → AreFree (root_cell x.home) done
          → Deferral w g (root_cell x.home ++ done) (due_of w.table x ++ due_roots (suc i) n) steps → Steps done [] i (suc n)
      started x steps e f d =
          let f' : AreFree (root_cell (standing_root w g i).home) done = subst (λ u. AreFree (root_cell u.home) done) (sym e) f in
          let d' : Deferral w g (root_cell (standing_root w g i).home ++ done) (due_of w.table (standing_root w g i) ++ due_roots (suc i) n) steps =
          subst (λ u. Deferral w g (root_cell u.home ++ done) (due_of w.table u ++ due_roots (suc i) n) steps) (sym e) d in
          (root_stands i ∷ steps, at_root f' d')

      own_pointees : AllByRecursion (Pointee g) own
      own_pointees = pointees g w.table (home.Root i) (r.of ∷ []) (root_agreements w g r.vars ∷ []) [] 0 (more v none) own_fit

      -- a root that is in its own place
      plain_step : direct (type_at w.table r.of) v ≡ None → Steps done [] i (suc n)
      plain_step e =
          let (steps, d) = less done taken own (suc i) n rs vs own_pointees apart named enough as_many next_roots next_fit (omega arith) in
          started (standing_by g i r.of v None) steps (stands_as ∙ ap (standing_by g i r.of v) e) tt d

      module _ (c t : ℕ) (to : TypeId) (e : direct (type_at w.table r.of) v ≡ Some (c, t)) (et : t ≡ to.0) where
        abbrev its_pointer : Pending
        its_pointer = record { home = home.Root i; node = 0; class = Ref; to = to.0; cell = Some c; agreements = [] }

        -- a reference pointer: its referent is in its place
        direct_step : own ≡ its_pointer ∷ [] → Steps done [] i (suc n)
        direct_step eo = by_standing (stands done c) refl
          where
            apart' : AllEarlier ShareOnlyIfFull (taken ++ its_pointer ∷ (unmet done ++ others))
            apart' = subst (λ u. AllEarlier ShareOnlyIfFull (taken ++ (u ++ (unmet done ++ others)))) eo apart

            by_standing : (b : Bool) → stands done c ≡ b → Steps done [] i (suc n)
            by_standing true s =
                let m = both_full done taken named its_pointer c (unmet done ++ others) apart' refl (stands-true done c s) in
                let x : Ref ≡ Full = m.0 in
                absurd (cc)
            by_standing false s =
                let free : ¬ IsPlaced done c = stands-false done c s in
                let typed = subst (AllByRecursion (Pointee g)) eo own_pointees in
                let (x, ex, ext) = typed.0 c refl in
                let (apart'', count) = opened done Ref c x (taken ++ its_pointer ∷ []) [] others ex s (after taken its_pointer (unmet done ++ others) apart') in
                let typed' : AllByRecursion (Pointee g) (of_cell (c, x) ++ []) = all_append (Pointee g) (of_cell (c, x)) [] (cell_fits c x ex) tt in
                let (steps, d) = less ((Ref, c) ∷ done) (taken ++ its_pointer ∷ []) (of_cell (c, x) ++ []) (suc i) n rs vs typed' apart''
                (named_cell done taken named its_pointer c refl) enough as_many next_roots next_fit (omega arith) in
                let d' : Deferral w g ((Ref, c) ∷ done) (map due_referent (of_cell (c, x)) ++ due_roots (suc i) n) steps =
                subst (λ u. Deferral w g ((Ref, c) ∷ done) u steps) (sym (joined_due (of_cell (c, x)) [] (due_roots (suc i) n))) d in
                let d'' : Deferral w g ((Ref, c) ∷ done) (map due_referent (home_pointers w.table (cell_home c) t (cell_at g c)) ++ due_roots (suc i) n) steps =
                subst (λ u. Deferral w g ((Ref, c) ∷ done) (map due_referent u ++ due_roots (suc i) n) steps) (sym (its_pointers c t x ex (ext ∙ sym et))) d' in
                started (standing_by g i r.of v (Some (c, t))) steps (stands_as ∙ ap (standing_by g i r.of v) e) (free, tt) d''

      direct_value : (u : Tree) → v ≡ u → (c t : ℕ) → direct (type_at w.table r.of) v ≡ Some (c, t) → Steps done [] i (suc n)
      direct_value (node l ks) ev c t e =
          let fit = subst (λ u. AllByRecursion (λ x. PointerFits w.table g x.of x.label) (nodes_of w.table (r.of ∷ []) (root_agreements w g r.vars ∷ []) 0 (more u none))) ev own_fit in
          let (to, ed, el, et) = direct_is (type_at w.table r.of) l ks c t (subst (λ u. direct (type_at w.table r.of) u ≡ Some (c, t)) ev e) fit.0.no_null in
          let value : v ≡ node (tree.Ptr (Some c)) ks = ev ∙ ap (λ u. node u ks) el in
          direct_step c t to e et (ap (home_pointers w.table (home.Root i) r.of) value ∙ direct_pointer w.table (home.Root i) r.of c to ks ed)

      by_direct : (o : Option (ℕ × ℕ)) → direct (type_at w.table r.of) v ≡ o → Steps done [] i (suc n)
      by_direct None e = plain_step e
      by_direct (Some q) e = direct_value v refl q.0 q.1 e

    root_step : (done : Placed_cells) (taken : List Pending)
        → AllEarlier ShareOnlyIfFull (taken ++ (unmet done ++ root_pointers w.table i (r ∷ rs) (v ∷ vs)))
        → Named done taken
        → length (waiting done 1 g.cells) + suc n < suc k
        → Steps done [] i (suc n)
    root_step done taken apart named fuel =
        let apart' : AllEarlier ShareOnlyIfFull (taken ++ (own ++ (unmet done ++ others))) = moved ShareOnlyIfFull turned taken (unmet done) own others
        (subst (λ u. AllEarlier ShareOnlyIfFull (taken ++ (unmet done ++ (own ++ root_pointers w.table u rs vs)))) next_index apart) in
        by_direct done taken named apart' fuel (direct (type_at w.table r.of) v) refl

  -- nothing is due but roots
  roots_step : (k : ℕ) → Claim k → (done : Placed_cells) (taken : List Pending) (i n : ℕ) (rs : List Root) (vs : List Tree)
      → AllEarlier ShareOnlyIfFull (taken ++ (unmet done ++ root_pointers w.table i rs vs))
      → Named done taken
      → n ≤ length rs → length vs ≡ length rs → AreRoots i rs vs
      → AllByRecursion (Fits g w.table) (root_nodes w g i rs vs)
      → length (waiting done 1 g.cells) + n < suc k
      → Steps done [] i n
  roots_step k less done taken i zero rs vs apart named enough as_many are_roots fit fuel = ([], none_due)
  roots_step k less done taken i (suc n) [] vs apart named enough as_many are_roots fit fuel = absurd (omega arith)
  roots_step k less done taken i (suc n) (r ∷ rs) [] apart named enough as_many are_roots fit fuel = absurd (omega arith)
  roots_step k less done taken i (suc n) (r ∷ rs) (v ∷ vs) apart named enough as_many are_roots fit fuel =
      root_step k less i n r rs v vs (omega arith) (omega arith) are_roots fit done taken apart named fuel

  claim_step : (k : ℕ) → Claim k → Claim (suc k)
  claim_step k less done taken ps i n rs vs typed apart named enough as_many are_roots fit fuel =
      pending_step k less i n rs vs enough as_many are_roots fit
      (λ done' taken' typed' apart' named' fuel'.
      roots_step k less done' taken' i n rs vs apart' named' enough as_many are_roots fit fuel') ps done taken typed apart named fuel

  claims : (k : ℕ) → Claim k
  claims zero done taken ps i n rs vs typed apart named enough as_many are_roots fit fuel = absurd (omega arith)
  claims (suc k) done taken ps i n rs vs typed apart named enough as_many are_roots fit fuel =
      claim_step k (claims k) done taken ps i n rs vs typed apart named enough as_many are_roots fit fuel

  all_waiting : (n : ℕ) (xs : List Referent) → flat_map of_cell (waiting [] n xs) ≡ cell_pointers w.table n xs
  all_waiting n [] = refl
  all_waiting n (x ∷ xs) = ap (λ u. home_pointers w.table (cell_home n) x.of x.val ++ u) (all_waiting (n + 1) xs)

-- An orderly graph has steps of deferral, for as many roots as one likes.
pub deferral_of : (w : Setting) (g : Graph) → Orderly w g → (n : ℕ) → n ≤ length (root_list w)
    → (steps : List Step) × Deferral w g [] (due_roots 0 n) steps
deferral_of w g o n h =
    let parts : AllByRecursion (Fits g w.table) (cell_nodes w.table 1 g.cells) = all_right _ (root_nodes w g 0 (root_list w) g.roots) _ o.fit in
    let roots_fit : AllByRecursion (Fits g w.table) (root_nodes w g 0 (root_list w) g.roots) = all_left _ _ (cell_nodes w.table 1 g.cells) o.fit in
    let P : List Pending = root_pointers w.table 0 (root_list w) g.roots in
    let W : List Pending = flat_map (λ r. home_pointers w.table (cell_home r.0) r.1.of r.1.val) (waiting [] 1 g.cells) in
    let apart : AllEarlier ShareOnlyIfFull (W ++ (P ++ [])) = moved ShareOnlyIfFull turned [] P W []
    (subst (AllEarlier ShareOnlyIfFull) (ap (λ u. P ++ u) (sym (all_waiting w g parts 1 g.cells) ∙ sym (append-nil W))) o.unshared) in
    let apart' : AllEarlier ShareOnlyIfFull (W ++ P) = subst (λ u. AllEarlier ShareOnlyIfFull (W ++ u)) (append-nil P) apart in
    claims w g parts (suc (length (waiting [] 1 g.cells) + n)) [] [] [] 0 n (root_list w) g.roots tt apart' (λ c x. absurd x) h o.all_roots
    ((λ j. ap (slice_get (root_list w)) (omega arith)), (λ j. ap (slice_get g.roots) (omega arith))) roots_fit (omega arith)
