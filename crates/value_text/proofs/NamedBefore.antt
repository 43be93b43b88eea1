-- Each cell that a stream names is named by a root, or by a cell that is named before it.
-- `w` is a setting, `g` a graph that conforms, `k` and `b` are numbers of cells, `p` is a pointer, `A` and `B` are lists of named cells.
use Rattle.std.proofs.Common.{◌≡◌, ◌⊎◌, inl, inr, ℕ, zero, suc, ◌+◌, ◌<◌, ◌≤◌, Bool, true, false, cond, eqb, List, [], ◌∷◌, ◌++◌, length, map, Option, Some, None, refl, ap, sym, ◌∙◌, subst, arith}
use Rattle.std.proofs.Common.{append_assoc, get_or}
use Rattle.std.specs.Prelude.{flat_map}
use Rattle.std.specs.List.{slice_get, AllByRecursion}
use Rattle.std.proofs.lemmas.Bool.{eqb-true, eqb-false, both_ways}
use Rattle.std.proofs.lemmas.Option.{same_Some, slice_get-get_or}
use Rattle.nd_types.specs.declared.types.Class.TheVariants.{Ref}
use Rattle.nd_types.specs.Table.{Table, type_at}
use Rattle.nd_types.specs.Roots.{Root}
use Rattle.nd_value.specs.declared.value.Graph.{Graph}
use Rattle.nd_value.specs.declared.item.Home.TheVariants as home
use Rattle.nd_value.specs.Tree as tree
use Rattle.nd_value.specs.Tree.{Tree, node, none, more, Referent}
use Rattle.nd_value.specs.Setting.{Setting, Among, root_list, root_at, or_unread, cell_home, cell_at, cell_tree, cell_of_number}
use Rattle.nd_value.specs.Deferral.{Pending, home_pointers, Due, due_root, due_referent, Step, Deferral, none_due, at_root, at_null, at_standing, at_referent, Placed_cells, Standing, standing_root}
use Rattle.nd_value.specs.Deferral.{standing_by, standing_cell, direct, root_type, due_of, due_roots, before_pipes}
use Rattle.nd_value.specs.Conforms.{root_pointers, Conforms}
use Rattle.nd_value.specs.Canon.{target, named, own_cell, named_cells, has, number_from, canonical_number}
use Rattle.nd_value.proofs.Apart.{all_append, among_left, among_right}
use Rattle.nd_value.proofs.DeferralExists.{direct_is, direct_pointer}
use Rattle.nd_grammar.specs.LegalSide.{IsLegalSide}
use Rattle.nd_grammar.proofs.written.CanonNumbers.{number_low, others as later}
use Rattle.nd_grammar.proofs.conforming.GoodStream.{DueGood, StandsGood, standing_due, root_good, pending_cell}
use Rattle.nd_grammar.proofs.ChosenRepresents.{none_inside, w_roots, of_named, own_within, dues}
use Rattle.nd_grammar.proofs.written.WritableTrees.{WritableTrees}

-- ## Lists of cells

among_or_not : (xs : List ℕ) (k : ℕ) → Among xs k ⊎ (Among xs k → ⊥)
among_or_not [] k = inr (λ m. m)
among_or_not (x ∷ xs) k = by (eqb k x) refl (among_or_not xs k) where
  by : (b : Bool) → eqb k x ≡ b → Among xs k ⊎ (Among xs k → ⊥) → Among (x ∷ xs) k ⊎ (Among (x ∷ xs) k → ⊥)
  by true e m = inl (inl (eqb-true k x e))
  by false e (inl m) = inl (inr m)
  by false e (inr n) = inr (λ m. elim m [ inl f ↦ eqb-false k x e f | inr f ↦ n f ])

split_among : (xs ys : List ℕ) (k : ℕ) → Among (xs ++ ys) k → Among xs k ⊎ Among ys k
split_among [] ys k m = inr m
split_among (x ∷ xs) ys k (inl e) = inl (inl e)
split_among (x ∷ xs) ys k (inr m) = elim (split_among xs ys k m) [ inl a ↦ inl (inr a) | inr a ↦ inr a ]

-- a pointer that names a cell
naming : (ps : List Pending) (k : ℕ) → Among (flat_map (λ p. target p.cell) ps) k → (p : Pending) × Among ps p × (p.cell ≡ Some k)
naming [] k m = absurd m
naming (p ∷ ps) k m = by p.cell refl m (naming ps k) where
  by : (o : Option ℕ) → p.cell ≡ o → Among (target o ++ flat_map (λ q. target q.cell) ps) k → (Among (flat_map (λ q. target q.cell) ps) k → (q : Pending) × Among ps q × (q.cell ≡ Some k))
      → (q : Pending) × Among (p ∷ ps) q × (q.cell ≡ Some k)
  by None e m again = let r = again m in (r.0, inr r.1, r.2)
  by (Some b) e (inl f) again = (p, inl refl, e ∙ ap Some (sym f))
  by (Some b) e (inr m) again = let r = again m in (r.0, inr r.1, r.2)

-- ## Numbers of named cells

abbrev by_tests : Bool → Bool → ℕ → List ℕ → ℕ → List ℕ → ℕ → ℕ
by_tests b e n seen d ds c = elim b [ true ↦ number_from n seen ds c | false ↦ elim e [ true ↦ n | false ↦ number_from (n + 1) (d ∷ seen) ds c ] ]

unseen : (seen : List ℕ) (d k : ℕ) → (k ≡ d → ⊥) → has seen k ≡ false → has (d ∷ seen) k ≡ false
unseen seen d k apart h = by (eqb k d) refl where
  by : (b : Bool) → eqb k d ≡ b → cond b true (has seen k) ≡ false
  by true e = absurd (apart (eqb-true k d e))
  by false e = h

-- a cell that is named among the first has a lower number than one that is named later alone
lower : (A B : List ℕ) (n : ℕ) (seen : List ℕ) (b k : ℕ) → Among A b → has seen b ≡ false → (Among A k → ⊥) → has seen k ≡ false → Among B k
    → number_from n seen (A ++ B) b < number_from n seen (A ++ B) k
lower [] B n seen b k m h x hk mk = absurd m
lower (d ∷ A) B n seen b k m h x hk mk =
    by (has seen d) refl (eqb b d) refl (eqb k d) refl (λ f. lower A B n seen b k f h (λ y. x (inr y)) hk mk)
    (λ f u v. lower A B (n + 1) (d ∷ seen) b k f u (λ y. x (inr y)) v mk)
  where
    apart : k ≡ d → ⊥
    apart e = x (inl e)

    low : has seen d ≡ false → n + 1 ≤ number_from (n + 1) (d ∷ seen) (A ++ B) k
    low e = number_low (A ++ B) (n + 1) (d ∷ seen) k (among_right A B k mk) (unseen seen d k apart hk)

    by : (s : Bool) → has seen d ≡ s → (e : Bool) → eqb b d ≡ e → (f : Bool) → eqb k d ≡ f → (Among A b → number_from n seen (A ++ B) b < number_from n seen (A ++ B) k)
        → (Among A b → has (d ∷ seen) b ≡ false → has (d ∷ seen) k ≡ false → number_from (n + 1) (d ∷ seen) (A ++ B) b < number_from (n + 1) (d ∷ seen) (A ++ B) k)
        → by_tests s e n seen d (A ++ B) b < by_tests s f n seen d (A ++ B) k
    by s es e eb true ek r t = absurd (apart (eqb-true k d ek))
    by true es e eb false ek r t = r (later d A b m (λ f. both_ways (has seen b) h (ap (has seen) f ∙ es)))
    by false es true eb false ek r t = omega (arith, low es)
    by false es false eb false ek r t = t (later d A b m (eqb-false b d eb)) (unseen seen d b (eqb-false b d eb) h) (unseen seen d k apart hk)

-- a cell that is not named has number 0
unnamed : (ds : List ℕ) (n : ℕ) (seen : List ℕ) (k : ℕ) → (Among ds k → ⊥) → number_from n seen ds k ≡ 0
unnamed [] n seen k x = refl
unnamed (d ∷ ds) n seen k x = by (has seen d) (eqb k d) refl (unnamed ds n seen k (λ m. x (inr m))) (unnamed ds (n + 1) (d ∷ seen) k (λ m. x (inr m))) where
  by : (s e : Bool) → eqb k d ≡ e → number_from n seen ds k ≡ 0 → number_from (n + 1) (d ∷ seen) ds k ≡ 0 → by_tests s e n seen d ds k ≡ 0
  by true e f r t = r
  by false true f r t = absurd (x (inl (eqb-true k d f)))
  by false false f r t = t

pub is_named : (ds : List ℕ) (k : ℕ) → 0 < canonical_number ds k → Among ds k
is_named ds k some = elim (among_or_not ds k) [ inl m ↦ m | inr x ↦ absurd (let z = unnamed ds 1 [] k x in omega (arith, some, z)) ]

-- ## Where a cell is named

module _ (table : Table) where
  pub root_among : (n : ℕ) (rs : List Root) (vs : List Tree) → length vs ≡ length rs → (i : ℕ) (r : Root) → slice_get rs i ≡ Some r
      → (p : Pending) → Among (home_pointers table (home.Root (n + i)) r.of (or_unread (slice_get vs i))) p → Among (root_pointers table n rs vs) p
  root_among n [] vs h i r e p a = cc
  root_among n (q ∷ rs) [] h i r e p a = cc
  root_among n (q ∷ rs) (v ∷ vs) h zero r e p a =
      let z : n + 0 ≡ n = omega arith in
      among_left (home_pointers table (home.Root n) q.of v) (root_pointers table (n + 1) rs vs) p
      (subst (λ u. Among (home_pointers table (home.Root n) u.of v) p) (sym (same_Some _ _ e)) (subst (λ u. Among (home_pointers table (home.Root u) r.of v) p) z a))
  root_among n (q ∷ rs) (v ∷ vs) h (suc i) r e p a =
      let z : n + suc i ≡ n + 1 + i = omega arith in
      let k : length vs ≡ length rs = omega (arith, h) in
      among_right (home_pointers table (home.Root n) q.of v) (root_pointers table (n + 1) rs vs) p
      (root_among (n + 1) rs vs k i r e p (subst (λ u. Among (home_pointers table (home.Root u) r.of (or_unread (slice_get vs i))) p) z a))

module _ (w : Setting) (side : IsLegalSide w) (g : Graph) (c : Conforms w g) where
  abbrev pub roots_of_graph : List Pending
  roots_of_graph = root_pointers w.table 0 (root_list w) g.roots

  -- a pointer that names a cell: of a root, or of a cell that is named before
  pub data IsSource (L : List ℕ) (k : ℕ) : Type 0 where
    from_root : (p : Pending) → Among roots_of_graph p → p.cell ≡ Some k → IsSource L k
    from_cell : (b : ℕ) (x : Referent) (p : Pending) (A B : List ℕ) → L ≡ A ++ B → Among A b → (Among A k → ⊥) → Among B k → cell_of_number g b ≡ Some x
        → Among (home_pointers w.table (cell_home b) x.of x.val) p → p.cell ≡ Some k → IsSource L k

  abbrev IsGoodDue : Due → Type 0
  IsGoodDue = DueGood w (none_inside w side g c) g

  -- the cell of what is due was named
  abbrev IsKnown : List ℕ → Due → Type 0
  IsKnown A (due_root i) = Unit {0}
  IsKnown A (due_referent p) = (k : ℕ) → p.cell ≡ Some k → Among A k

  known_longer : (A B : List ℕ) (due : List Due) → AllByRecursion (IsKnown A) due → AllByRecursion (IsKnown (A ++ B)) due
  known_longer A B [] a = tt
  known_longer A B (due_root i ∷ due) a = (tt, known_longer A B due a.1)
  known_longer A B (due_referent p ∷ due) a = ((λ k e. among_left A B k (a.0 k e)), known_longer A B due a.1)

  known_pointers : (A : List ℕ) (ps : List Pending) → ((p : Pending) → Among ps p → (k : ℕ) → p.cell ≡ Some k → Among A k) → AllByRecursion (IsKnown A) (map due_referent ps)
  known_pointers A [] f = tt
  known_pointers A (p ∷ ps) f = ((λ k e. f p (inl refl) k e), known_pointers A ps (λ q m. f q (inr m)))

  -- what a value that stands makes due has been named with it
  known_due : (A : List ℕ) (x : Standing) (due : List Due) → AllByRecursion (IsKnown A) due → AllByRecursion (IsKnown (A ++ named w.table x)) (due_of w.table x ++ due)
  known_due A x due a =
      let ps : List Pending = home_pointers w.table x.home x.of x.val in
      all_append (IsKnown (A ++ named w.table x)) (due_of w.table x) due
      (known_pointers (A ++ named w.table x) ps (λ p m k e. among_right A (named w.table x) k (of_named ps k p m e)))
      (known_longer A (named w.table x) due a)

  -- what stands for a root: the root itself, or the cell that it names
  abbrev RootStands : ℕ → ℕ → Tree → Standing → Type 0
  RootStands i t v x =
      ((x.home ≡ home.Root i) × (x.of ≡ t) × (x.val ≡ v))
      ⊎ ((b : ℕ) × (p : Pending) × (x.home ≡ cell_home b) × Among (home_pointers w.table (home.Root i) t v) p × (p.cell ≡ Some b))

  stands_by : (i t : ℕ) (v : Tree) → WritableTrees w.table g (t ∷ []) (more v none) → RootStands i t v (standing_by g i t v (direct (type_at w.table t) v))
  stands_by i t (node l ks) a = by (direct (type_at w.table t) (node l ks)) refl where
    by : (o : Option (ℕ × ℕ)) → direct (type_at w.table t) (node l ks) ≡ o → RootStands i t (node l ks) (standing_by g i t (node l ks) o)
    by None e = inl (refl, refl, refl)
    by (Some d) e =
        let (to, ed, el, eu) = direct_is (type_at w.table t) l ks d.0 d.1 e a.0.fit.no_null in
        let one : Pending = record { home = home.Root i; node = 0; class = Ref; to = to.0; cell = Some d.0; agreements = [] } in
        let is : home_pointers w.table (home.Root i) t (node l ks) ≡ one ∷ [] =
        ap (λ q. home_pointers w.table (home.Root i) t (node q ks)) el ∙ direct_pointer w.table (home.Root i) t d.0 to ks ed in
        inr (d.0, one, refl, subst (λ (ps : List Pending). Among ps one) (sym is) (inl refl), refl)

  root_stands_as : (i : ℕ) (r : Root) → slice_get (root_list w) i ≡ Some r → RootStands i r.of (root_at g i) (standing_root w g i)
  root_stands_as i r e =
      subst (λ t. RootStands i r.of (root_at g i) (standing_by g i t (root_at g i) (direct (type_at w.table t) (root_at g i)))) (sym (ap root_type e))
      (stands_by i r.of (root_at g i) (w_roots w side g c i r e))

  of_root : (i : ℕ) (r : Root) → slice_get (root_list w) i ≡ Some r → (p : Pending) → Among (home_pointers w.table (home.Root i) r.of (root_at g i)) p → Among roots_of_graph p
  of_root i r e p m =
      let z : i ≡ 0 + i = omega arith in
      root_among w.table 0 (root_list w) g.roots c.all_roots i r e p (subst (λ u. Among (home_pointers w.table (home.Root u) r.of (root_at g i)) p) z m)

  -- the cell that a root names where its referent is in its place
  own_named : (i : ℕ) (r : Root) → slice_get (root_list w) i ≡ Some r → (L : List ℕ) (k : ℕ) → Among (own_cell (standing_root w g i).home) k → IsSource L k
  own_named i r e L k m = by (root_stands_as i r e) m where
    by : RootStands i r.of (root_at g i) (standing_root w g i) → Among (own_cell (standing_root w g i).home) k → IsSource L k
    by (inl s) m = absurd (subst (λ h. Among (own_cell h) k) s.0 m)
    by (inr s) m = one (subst (λ h. Among (own_cell h) k) s.2 m) where
      one : Among (s.0 ∷ []) k → IsSource L k
      one (inl f) = from_root s.1 (of_root i r e s.1 s.3) (s.4 ∙ ap Some (sym f))
      one (inr f) = absurd f

  cell_there : (b : ℕ) (t : ℕ) (x : Referent) → cell_of_number g b ≡ Some x → x.of ≡ t → (p : Pending) → Among (home_pointers w.table (cell_home b) t (cell_at g b)) p
      → Among (home_pointers w.table (cell_home b) x.of x.val) p
  cell_there b t x e f p m =
      subst (λ u. Among (home_pointers w.table (cell_home b) u x.val) p) (sym f)
      (subst (λ u. Among (home_pointers w.table (cell_home b) t u) p) (ap cell_tree e) m)

  existing : (b : ℕ) → 0 < b → b ≤ length g.cells → (y : Referent) × (cell_of_number g b ≡ Some y)
  existing zero some few = absurd (omega (arith, some))
  existing (suc j) some few =
      let d : Referent = record { of = 0; val = node tree.Unread none } in
      (get_or g.cells j d, slice_get-get_or g.cells j d (omega (arith, few)))

  neither : (A B : List ℕ) (k : ℕ) → (Among A k → ⊥) → (Among B k → ⊥) → Among (A ++ B) k → ⊥
  neither A B k x y m = elim (split_among A B k m) [ inl z ↦ x z | inr z ↦ y z ]

  behind : (A B : List ℕ) (k : ℕ) → (Among A k → ⊥) → Among (A ++ B) k → Among B k
  behind A B k x m = elim (split_among A B k m) [ inl z ↦ absurd (x z) | inr z ↦ z ]

  -- a cell that a root names, or the cell that stands for it
  root_source : (i : ℕ) (r : Root) → slice_get (root_list w) i ≡ Some r → StandsGood w (none_inside w side g c) g (standing_root w g i) → (A L N : List ℕ)
      → L ≡ A ++ ((own_cell (standing_root w g i).home ++ named w.table (standing_root w g i)) ++ N) → (k : ℕ)
      → (Among A k → ⊥) → (Among (own_cell (standing_root w g i).home) k → ⊥) → Among (named w.table (standing_root w g i)) k → IsSource L k
  root_source i r e s A L N eq k x y m = by (root_stands_as i r e) where
    X : Standing
    X = standing_root w g i

    own : List ℕ
    own = own_cell X.home

    found : (p : Pending) × Among (home_pointers w.table X.home X.of X.val) p × (p.cell ≡ Some k)
    found = naming (home_pointers w.table X.home X.of X.val) k m

    parted : L ≡ (A ++ own) ++ (named w.table X ++ N)
    parted = eq ∙ ap (λ (l : List ℕ). A ++ l) (append_assoc own (named w.table X) N) ∙ sym (append_assoc A own (named w.table X ++ N))

    by : RootStands i r.of (root_at g i) X → IsSource L k
    by (inl z) =
        from_root found.0
        (of_root i r e found.0
        (subst (λ h. Among (home_pointers w.table h r.of (root_at g i)) found.0) z.0
        (subst (λ t. Among (home_pointers w.table X.home t (root_at g i)) found.0) z.1
        (subst (λ v. Among (home_pointers w.table X.home X.of v) found.0) z.2 found.1))))
        found.2
    by (inr z) =
        let b : ℕ = z.0 in
        let here : Among own b = subst (λ h. Among (own_cell h) b) (sym z.2) (inl refl) in
        let within = own_within w side g c i r e b here in
        let there = existing b within.0 within.1 in
        let same = s.its_cell b z.2 there.0 there.1 in
        from_cell b there.0 found.0 (A ++ own) (named w.table X ++ N) parted (among_right A own b here) (neither A own k x y) (among_left (named w.table X) N k m) there.1
        (subst (λ t. Among (home_pointers w.table (cell_home b) t there.0.val) found.0) (sym same.0)
        (subst (λ v. Among (home_pointers w.table (cell_home b) X.of v) found.0) (sym same.1)
        (subst (λ h. Among (home_pointers w.table h X.of X.val) found.0) z.2 found.1)))
        found.2

  pub sources : {done : Placed_cells} {due : List Due} {steps : List Step} → Deferral w g done due steps → AllByRecursion IsGoodDue due
      → (A : List ℕ) → AllByRecursion (IsKnown A) due → (L : List ℕ) → L ≡ A ++ named_cells w g steps → (k : ℕ) → Among (named_cells w g steps) k → (Among A k → ⊥) → IsSource L k
  sources none_due a A kn L eq k m x = absurd m
  sources (at_root {i = i} {due = due} {steps = steps} fr d) a A kn L eq k m x =
      let (r, e, np) = a.0 in
      let X : Standing = standing_root w g i in
      let s = root_good w (none_inside w side g c) g c i r e np in
      let sd = standing_due w (none_inside w side g c) g X s in
      let own : List ℕ = own_cell X.home in
      let nam : List ℕ = named w.table X in
      let N : List ℕ = named_cells w g steps in
      let known : AllByRecursion (IsKnown (A ++ (own ++ nam))) (due_of w.table X ++ due) =
      subst (λ (l : List ℕ). AllByRecursion (IsKnown l) (due_of w.table X ++ due)) (append_assoc A own nam) (known_due (A ++ own) X due (known_longer A own due kn.1)) in
      let again : Among N k → (Among (A ++ (own ++ nam)) k → ⊥) → IsSource L k =
      sources d (all_append IsGoodDue (due_of w.table X) due sd a.1) (A ++ (own ++ nam)) known L (eq ∙ sym (append_assoc A (own ++ nam) N)) k in
      elim (among_or_not own k) [
        | inl o ↦ own_named i r e L k o
        | inr o ↦ elim (among_or_not nam k) [
          | inl n ↦ root_source i r e s A L N eq k x o n
          | inr n ↦ again (behind (own ++ nam) N k (neither own nam k o n) m) (neither A (own ++ nam) k x (neither own nam k o n))
        ]
      ]
  sources (at_null e d) a A kn L eq k m x = sources d a.1 A kn.1 L eq k m x
  sources (at_standing b e full h d) a A kn L eq k m x = sources d a.1 A kn.1 L eq k m x
  sources (at_referent {p = p} {due = due} {steps = steps} b e nd d) a A kn L eq k m x =
      let X : Standing = standing_cell g p b in
      let s = pending_cell w (none_inside w side g c) g c p a.0 b e in
      let sd = standing_due w (none_inside w side g c) g X s in
      let nam : List ℕ = named w.table X in
      let N : List ℕ = named_cells w g steps in
      let again : Among N k → (Among (A ++ nam) k → ⊥) → IsSource L k =
      sources d (all_append IsGoodDue (due_of w.table X) due sd a.1) (A ++ nam) (known_due A X due kn.1) L (eq ∙ sym (append_assoc A nam N)) k in
      elim (among_or_not nam k) [
        | inl n ↦
            let found = naming (home_pointers w.table X.home X.of X.val) k n in
            let (y, ey, et) = a.0.pointee b e in
            from_cell b y found.0 A (nam ++ N) eq (kn.0 b e) x (among_left nam N k n) ey (cell_there b p.to y ey et found.0 found.1) found.2
        | inr n ↦ again (behind nam N k n m) (neither A nam k x n)
      ]

  -- cells that are named earlier have lower numbers
  pub numbered_lower : (L A B : List ℕ) (b k : ℕ) → L ≡ A ++ B → Among A b → (Among A k → ⊥) → Among B k → canonical_number L b < canonical_number L k
  numbered_lower L A B b k e m x n = subst (λ (l : List ℕ). canonical_number l b < canonical_number l k) (sym e) (lower A B 1 [] b k m refl x refl n)

  roots_known : (i n : ℕ) → AllByRecursion (IsKnown []) (due_roots i n)
  roots_known i zero = tt
  roots_known i (suc n) = (tt, roots_known (suc i) n)

  -- each cell that a stream names has such a pointer
  pub source_of : (steps : List Step) → Deferral w g [] (due_roots 0 (before_pipes (root_list w))) steps → (k : ℕ) → Among (named_cells w g steps) k → IsSource (named_cells w g steps) k
  source_of steps d k m = sources d (dues w side g c) [] (roots_known 0 (before_pipes (root_list w))) (named_cells w g steps) refl k m (λ x. x)
