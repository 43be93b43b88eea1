-- Two conforming graphs that a map of cells carries are the same up to the numbers of their cells.
use Rattle.std.proofs.Common.{◌≡◌, ℕ, ◌+◌, ◌<◌, ◌≤◌, ◌-◌, zero, suc, List, [], ◌∷◌, length, Option, Some, refl, ap, ap₂, sym, ◌∙◌, inl, inr, ◌⊎◌, arith, subst, drop}
use Rattle.std.specs.Prelude.{map}
use Rattle.std.specs.List.{AllByRecursion, slice_get}
use Rattle.std.proofs.lemmas.Bool.{cases_lt}
use Rattle.std.proofs.lemmas.Option.{same_Some, slice_get_within}
use Rattle.nd_types.specs.declared.types.Class.{Class}
use Rattle.nd_types.specs.Table.{Table}
use Rattle.nd_types.specs.Roots.{Root}
use Rattle.nd_value.specs.declared.value.Graph.{Graph}
use Rattle.nd_value.specs.declared.item.Home.{Home}
use Rattle.nd_value.specs.declared.item.Home.TheVariants as home
use Rattle.nd_value.specs.Tree as tree
use Rattle.nd_value.specs.Tree.{Tree, Trees, node, none, more, Referent, trees}
use Rattle.nd_value.specs.Setting.{Setting, Among, root_list, root_at, or_unread, cell_at, cell_tree, cell_of_number, cell_home}
use Rattle.nd_value.specs.Deferral.{home_pointers, before_pipes, root_type}
use Rattle.nd_value.specs.Conforms.{root_pointers, Reached, by_root, by_cell}
use Rattle.nd_value.specs.Canon.{Same, renumbered}
use Rattle.nd_value.proofs.Apart.{all_among}
use Rattle.nd_value.proofs.NodeFacts.{IsSound}
use Rattle.nd_grammar.proofs.next.Next.{Pair, IsApart, OneToOne, Readings}
use Rattle.nd_grammar.proofs.next.Matching.{Known, Matched, CellsMatch}
use Rattle.nd_grammar.proofs.next.NextPending.{AllPointers, nodes_match, both}
use Rattle.nd_grammar.proofs.next.NextPipes.{PipesMatch}
use Rattle.nd_grammar.proofs.next.Carried.{InMap, AllInMap, carried}
use Rattle.nd_grammar.proofs.next.Standings.{PairFits, IsClosed, RootCarried}
use Rattle.nd_grammar.proofs.next.NextStream.{AreMapped, IsLaidOut, IsPipeRoot, pipe_root, root_carried, drop_at}
use Rattle.nd_grammar.proofs.next.KnownNodes.{known_roots}
use Rattle.nd_grammar.proofs.next.Mapped.{image, image_at, image_elsewhere, one_left, renumber, left_in, right_in, pipe_pointers}
use Rattle.nd_grammar.proofs.next.Counting.{Distinct, no_longer, down, length_down, among_down, down_distinct}
use Rattle.nd_grammar.proofs.FewItemsLaw.{down_in}
use Rattle.nd_lemmas.proofs.Lists.{length_map as mapped_length}

abbrev first_of_trees : Trees → Tree
first_of_trees none = node tree.Unread none
first_of_trees (more t ts) = t

pipes_at : (C : Class → Option ℕ → Option ℕ → Type 0) (table : Table) (rs : List Root) (vs vs' : List Tree) → length vs ≡ length rs → length vs' ≡ length rs
    → PipesMatch C table rs vs vs' → (j : ℕ) (r : Root) → slice_get rs j ≡ Some r
    → Matched C table (r.of ∷ []) (more (or_unread (slice_get vs j)) none) (more (or_unread (slice_get vs' j)) none)
pipes_at C table [] vs vs' h h' m j r e = cc
pipes_at C table (q ∷ rs) [] vs' h h' m j r e = cc
pipes_at C table (q ∷ rs) (v ∷ vs) [] h h' m j r e = cc
pipes_at C table (q ∷ rs) (v ∷ vs) (v' ∷ vs') h h' m zero r e =
    subst (λ u. Matched C table (u.of ∷ []) (more v none) (more v' none)) (same_Some _ _ e) m.0
pipes_at C table (q ∷ rs) (v ∷ vs) (v' ∷ vs') h h' m (suc j) r e = pipes_at C table rs vs vs' (omega arith) (omega arith) m.1 j r e

drop_length : {X Y : Type 0} (n : ℕ) (xs : List X) (ys : List Y) → length xs ≡ length ys → length (drop n xs) ≡ length (drop n ys)
drop_length zero xs ys e = e
drop_length (suc n) [] [] e = refl
drop_length (suc n) [] (y ∷ ys) e = cc
drop_length (suc n) (x ∷ xs) [] e = cc
drop_length (suc n) (x ∷ xs) (y ∷ ys) e = let f : length xs ≡ length ys = omega arith in drop_length n xs ys f

abbrev lefts : List Pair → List ℕ
lefts ys = map (λ z. z.left) ys

abbrev rights : List Pair → List ℕ
rights ys = map (λ z. z.right) ys

apart_lefts : (z : Pair) (ys : List Pair) → AllByRecursion (IsApart z) ys → AllByRecursion (λ c. z.left ≡ c → ⊥) (lefts ys)
apart_lefts z [] a = tt
apart_lefts z (y ∷ ys) a = (a.0.0, apart_lefts z ys a.1)

apart_rights : (z : Pair) (ys : List Pair) → AllByRecursion (IsApart z) ys → AllByRecursion (λ c. z.right ≡ c → ⊥) (rights ys)
apart_rights z [] a = tt
apart_rights z (y ∷ ys) a = (a.0.1, apart_rights z ys a.1)

distinct_lefts : (ys : List Pair) → OneToOne ys → Distinct (lefts ys)
distinct_lefts [] o = tt
distinct_lefts (z ∷ ys) o = (apart_lefts z ys o.0, distinct_lefts ys o.1)

distinct_rights : (ys : List Pair) → OneToOne ys → Distinct (rights ys)
distinct_rights [] o = tt
distinct_rights (z ∷ ys) o = (apart_rights z ys o.0, distinct_rights ys o.1)

among_mapped : (f : Pair → ℕ) (ys : List Pair) (z : Pair) → Among ys z → Among (map f ys) (f z)
among_mapped f [] z a = absurd a
among_mapped f (y ∷ ys) z (inl e) = inl (ap f e)
among_mapped f (y ∷ ys) z (inr a) = inr (among_mapped f ys z a)

mapped_among : (f : Pair → ℕ) (ys : List Pair) (c : ℕ) → Among (map f ys) c → (z : Pair) × Among ys z × (f z ≡ c)
mapped_among f [] c a = absurd a
mapped_among f (y ∷ ys) c (inl e) = (y, inl refl, sym e)
mapped_among f (y ∷ ys) c (inr a) = let (z, b, e) = mapped_among f ys c a in (z, inr b, e)

-- a cell's number
in_cells : (g : Graph) (c : ℕ) (x : Referent) → cell_of_number g c ≡ Some x → (0 < c) × (c ≤ length g.cells)
in_cells g zero x e = cc
in_cells g (suc i) x e = let h = slice_get_within g.cells i x e in (omega arith, omega arith)

-- the cells of a graph are the members of a list without repetition
as_many : (g : Graph) (xs : List ℕ) → Distinct xs → ((c : ℕ) → Among xs c → (0 < c) × (c ≤ length g.cells))
    → ((c : ℕ) → 0 < c → c ≤ length g.cells → Among xs c) → length g.cells ≡ length xs
as_many g xs d h k =
    let n : ℕ = length g.cells in
    let a : length xs ≤ length (down n) = no_longer xs (down n) d (λ c m. let (p, q) = h c m in among_down n c p q) in
    let b : length (down n) ≤ length xs = no_longer (down n) xs (down_distinct n) (λ c m. let (p, q) = down_in n c m in k c p q) in
    omega (arith, length_down n)

module _ (two : Readings) (w : Setting) (g g' : Graph) (laid : IsLaidOut w) (s : IsSound w g) (s' : IsSound w g') (ys : List Pair) (am : AreMapped two w g g' ys) where
  abbrev Carried : ℕ → Tree → Tree → Type 0
  Carried t v v' = Matched (InMap ys) w.table (t ∷ []) (more v none) (more v' none)

  abbrev n : ℕ
  n = before_pipes (root_list w)

  -- a pipe is carried, since it has no pointers
  pipe_carried : (i : ℕ) (r : Root) → slice_get (root_list w) i ≡ Some r → n ≤ i → Carried r.of (root_at g i) (root_at g' i)
  pipe_carried i r e h =
      let p : IsPipeRoot w.table r = pipe_root two w g g' s s' laid i r e h in
      let f = laid.elements r.of p.elem p.type_is in
      let k : n + (i - n) ≡ i = omega arith in
      let e' : slice_get (drop n (root_list w)) (i - n) ≡ Some r = drop_at n (root_list w) (i - n) ∙ ap (slice_get (root_list w)) k ∙ e in
      let v : or_unread (slice_get (drop n g.roots) (i - n)) ≡ root_at g i = ap or_unread (drop_at n g.roots (i - n) ∙ ap (slice_get g.roots) k) in
      let v' : or_unread (slice_get (drop n g'.roots) (i - n)) ≡ root_at g' i = ap or_unread (drop_at n g'.roots (i - n) ∙ ap (slice_get g'.roots) k) in
      let m = pipes_at (CellsMatch two.left two.right) w.table (drop n (root_list w)) (drop n g.roots) (drop n g'.roots)
      (drop_length n g.roots (root_list w) s.all_roots) (drop_length n g'.roots (root_list w) s'.all_roots) am.pipes (i - n) r e' in
      let m' : Matched (CellsMatch two.left two.right) w.table (r.of ∷ []) (more (root_at g i) none) (more (root_at g' i) none) =
      subst (λ u. Matched (CellsMatch two.left two.right) w.table (r.of ∷ []) (more u none) (more (root_at g' i) none)) v
      (subst (λ u. Matched (CellsMatch two.left two.right) w.table (r.of ∷ []) (more (or_unread (slice_get (drop n g.roots) (i - n))) none) (more u none)) v' m) in
      let none_left : home_pointers w.table (home.Root i) r.of (root_at g i) ≡ [] = pipe_pointers w.table (home.Root i) r.of p.elem (root_at g i) p.type_is f in
      let none_right : home_pointers w.table (home.Root i) r.of (root_at g' i) ≡ [] = pipe_pointers w.table (home.Root i) r.of p.elem (root_at g' i) p.type_is f in
      let all : AllInMap ys (home_pointers w.table (home.Root i) r.of (root_at g i)) (home_pointers w.table (home.Root i) r.of (root_at g' i)) =
      subst (λ u. AllInMap ys u (home_pointers w.table (home.Root i) r.of (root_at g' i))) (sym none_left) (subst (λ u. AllInMap ys [] u) (sym none_right) tt) in
      carried (CellsMatch two.left two.right) g g' w.table (home.Root i) (home.Root i) ys (r.of ∷ []) (more (root_at g i) none) (more (root_at g' i) none)
      (known_roots w g s i r e) m' [] [] 0 0 all

  -- each root is carried
  root_in : (i : ℕ) (r : Root) → slice_get (root_list w) i ≡ Some r → Carried r.of (root_at g i) (root_at g' i)
  root_in i r e = go (cases_lt i n)
    where
      go : (i < n) ⊎ (n ≤ i) → Carried r.of (root_at g i) (root_at g' i)
      go (inr h) = pipe_carried i r e h
      go (inl h) =
          let c : RootCarried two w g g' ys (0 + i) = root_carried two w g g' ys 0 n am.roots i h in
          let k : 0 + i ≡ i = omega arith in
          let c' : RootCarried two w g g' ys i = subst (RootCarried two w g g' ys) k c in
          subst (λ t. Carried t (root_at g i) (root_at g' i)) (ap root_type e) c'.carried_by

  -- the roots from the i-th on, with what is known of them
  abbrev RootsIn : List Root → List Tree → List Tree → Type 0
  RootsIn (r ∷ rs) (v ∷ vs) (v' ∷ vs') = Known g w.table (r.of ∷ []) (more v none) × Known g' w.table (r.of ∷ []) (more v' none) × Carried r.of v v' × RootsIn rs vs vs'
  RootsIn [] [] [] = Unit {0}
  RootsIn _ _ _ = ⊥

  roots_from : (rs : List Root) (vs vs' : List Tree) → length vs ≡ length rs → length vs' ≡ length rs
      → ((j : ℕ) (r : Root) → slice_get rs j ≡ Some r
      → Known g w.table (r.of ∷ []) (more (or_unread (slice_get vs j)) none) × Known g' w.table (r.of ∷ []) (more (or_unread (slice_get vs' j)) none)
      × Carried r.of (or_unread (slice_get vs j)) (or_unread (slice_get vs' j))) → RootsIn rs vs vs'
  roots_from [] [] [] h h' f = tt
  roots_from [] [] (v ∷ vs) h h' f = cc
  roots_from [] (v ∷ vs) vs' h h' f = cc
  roots_from (r ∷ rs) [] vs' h h' f = cc
  roots_from (r ∷ rs) (v ∷ vs) [] h h' f = cc
  roots_from (r ∷ rs) (v ∷ vs) (v' ∷ vs') h h' f =
      let (a, b, c) = f 0 r refl in
      (a, b, c, roots_from rs vs vs' (omega arith) (omega arith) (λ j q e. f (suc j) q e))

  all_roots_in : RootsIn (root_list w) g.roots g'.roots
  all_roots_in = roots_from (root_list w) g.roots g'.roots s.all_roots s'.all_roots (λ i r e. (known_roots w g s i r e, known_roots w g' s' i r e, root_in i r e))

  pointers_in : (h h' : Home) (t : ℕ) (v v' : Tree) → Known g w.table (t ∷ []) (more v none) → Known g' w.table (t ∷ []) (more v' none) → Carried t v v'
      → AllPointers (InMap ys) g g' (home_pointers w.table h t v) (home_pointers w.table h' t v')
  pointers_in h h' t v v' a b m = nodes_match (InMap ys) g g' w.table h h' (t ∷ []) [] 0 (more v none) (more v' none) a b m

  roots_pointers : (i : ℕ) (rs : List Root) (vs vs' : List Tree) → RootsIn rs vs vs'
      → AllPointers (InMap ys) g g' (root_pointers w.table i rs vs) (root_pointers w.table i rs vs')
  roots_pointers i [] [] [] a = tt
  roots_pointers i [] [] (v ∷ vs) a = absurd a
  roots_pointers i [] (v ∷ vs) vs' a = absurd a
  roots_pointers i (r ∷ rs) [] vs' a = absurd a
  roots_pointers i (r ∷ rs) (v ∷ vs) [] a = absurd a
  roots_pointers i (r ∷ rs) (v ∷ vs) (v' ∷ vs') a =
      both (InMap ys) g g' _ _ _ _ (pointers_in (home.Root i) (home.Root i) r.of v v' a.0 a.1 a.2) (roots_pointers (i + 1) rs vs vs' a.3)

  roots_renumbered : (rs : List Root) (vs vs' : List Tree) → RootsIn rs vs vs' → renumbered (image ys) (trees vs) ≡ trees vs'
  roots_renumbered [] [] [] a = refl
  roots_renumbered [] [] (v ∷ vs) a = absurd a
  roots_renumbered [] (v ∷ vs) vs' a = absurd a
  roots_renumbered (r ∷ rs) [] vs' a = absurd a
  roots_renumbered (r ∷ rs) (v ∷ vs) [] a = absurd a
  roots_renumbered (r ∷ rs) (node l ks ∷ vs) (v' ∷ vs') a =
      let e : renumbered (image ys) (more (node l ks) none) ≡ more v' none = renumber ys am.one w.table (r.of ∷ []) (more (node l ks) none) (more v' none) a.2 in
      ap₂ (λ u v. more u v) (ap first_of_trees e) (roots_renumbered rs vs vs' a.3)

  -- the pointers of a pair's cells
  pair_pointers : (z : Pair) → Among ys z → (x : Referent) → cell_of_number g z.left ≡ Some x → (x' : Referent) → cell_of_number g' z.right ≡ Some x'
      → AllPointers (InMap ys) g g' (home_pointers w.table (cell_home z.left) x.of x.val) (home_pointers w.table (cell_home z.right) x'.of x'.val)
  pair_pointers z a x e x' e' =
      let f : PairFits two w g g' z = all_among (PairFits two w g g') ys z a am.fit in
      let c : IsClosed two w g g' ys z = all_among (IsClosed two w g g' ys) ys z a am.closed in
      let (y, ey, ty) = f.left_cell in
      let (y', ey', ty') = f.right_cell in
      let t : x.of ≡ z.of = ap (λ u. u.of) (same_Some _ _ (sym e ∙ ey)) ∙ ty in
      let t' : x'.of ≡ z.of = ap (λ u. u.of) (same_Some _ _ (sym e' ∙ ey')) ∙ ty' in
      let P = pointers_in (cell_home z.left) (cell_home z.right) z.of (cell_at g z.left) (cell_at g' z.right) f.known f.known' c in
      subst (λ u. AllPointers (InMap ys) g g' (home_pointers w.table (cell_home z.left) u x.val) (home_pointers w.table (cell_home z.right) x'.of x'.val)) (sym t)
      (subst (λ u. AllPointers (InMap ys) g g' (home_pointers w.table (cell_home z.left) z.of x.val) (home_pointers w.table (cell_home z.right) u x'.val)) (sym t')
      (subst (λ u. AllPointers (InMap ys) g g' (home_pointers w.table (cell_home z.left) z.of u) (home_pointers w.table (cell_home z.right) z.of x'.val)) (ap cell_tree e)
      (subst (λ u. AllPointers (InMap ys) g g' (home_pointers w.table (cell_home z.left) z.of (cell_at g z.left)) (home_pointers w.table (cell_home z.right) z.of u)) (ap cell_tree e') P)))

  reached_left : (c : ℕ) → Reached w g c → (z : Pair) × Among ys z × (z.left ≡ c)
  reached_left c (by_root p a e) = left_in ys am.one g g' _ _ (roots_pointers 0 (root_list w) g.roots g'.roots all_roots_in) p a c e
  reached_left c (by_cell {b = b} x p r ex a e) =
      let (z, b', l) = reached_left b r in
      let f : PairFits two w g g' z = all_among (PairFits two w g g') ys z b' am.fit in
      let (y', ey', ty') = f.right_cell in
      let ex' : cell_of_number g z.left ≡ Some x = ap (cell_of_number g) l ∙ ex in
      let a' : Among (home_pointers w.table (cell_home z.left) x.of x.val) p = subst (λ u. Among (home_pointers w.table (cell_home u) x.of x.val) p) (sym l) a in
      left_in ys am.one g g' _ _ (pair_pointers z b' x ex' y' ey') p a' c e

  reached_right : (c : ℕ) → Reached w g' c → (z : Pair) × Among ys z × (z.right ≡ c)
  reached_right c (by_root p a e) = right_in ys am.one g g' _ _ (roots_pointers 0 (root_list w) g.roots g'.roots all_roots_in) p a c e
  reached_right c (by_cell {b = b} x p r ex a e) =
      let (z, b', l) = reached_right b r in
      let f : PairFits two w g g' z = all_among (PairFits two w g g') ys z b' am.fit in
      let (y, ey, ty) = f.left_cell in
      let ex' : cell_of_number g' z.right ≡ Some x = ap (cell_of_number g') l ∙ ex in
      let a' : Among (home_pointers w.table (cell_home z.right) x.of x.val) p = subst (λ u. Among (home_pointers w.table (cell_home u) x.of x.val) p) (sym l) a in
      right_in ys am.one g g' _ _ (pair_pointers z b' y ey x ex') p a' c e

  module _ (reached : (c : ℕ) → 0 < c → c ≤ length g.cells → Reached w g c) (reached' : (c : ℕ) → 0 < c → c ≤ length g'.cells → Reached w g' c) where
    left_range : (z : Pair) → Among ys z → (0 < z.left) × (z.left ≤ length g.cells)
    left_range z a = let (y, ey, ty) = (all_among (PairFits two w g g') ys z a am.fit).left_cell in in_cells g z.left y ey

    right_range : (z : Pair) → Among ys z → (0 < z.right) × (z.right ≤ length g'.cells)
    right_range z a = let (y, ey, ty) = (all_among (PairFits two w g g') ys z a am.fit).right_cell in in_cells g' z.right y ey

    left_many : length g.cells ≡ length ys
    left_many =
        as_many g (lefts ys) (distinct_lefts ys am.one)
        (λ c m. let (z, a, e) = mapped_among (λ z. z.left) ys c m in subst (λ u. (0 < u) × (u ≤ length g.cells)) e (left_range z a))
        (λ c p q. let (z, a, e) = reached_left c (reached c p q) in subst (λ u. Among (lefts ys) u) e (among_mapped (λ z. z.left) ys z a))
        ∙ mapped_length (λ z. z.left) ys

    right_many : length g'.cells ≡ length ys
    right_many =
        as_many g' (rights ys) (distinct_rights ys am.one)
        (λ c m. let (z, a, e) = mapped_among (λ z. z.right) ys c m in subst (λ u. (0 < u) × (u ≤ length g'.cells)) e (right_range z a))
        (λ c p q. let (z, a, e) = reached_right c (reached' c p q) in subst (λ u. Among (rights ys) u) e (among_mapped (λ z. z.right) ys z a))
        ∙ mapped_length (λ z. z.right) ys

    same_many : length g.cells ≡ length g'.cells
    same_many = left_many ∙ sym right_many

    within : (c : ℕ) → 0 < c → c ≤ length g.cells → (0 < image ys c) × (image ys c ≤ length g.cells)
    within c p q =
        let (z, a, e) = reached_left c (reached c p q) in
        let f : z.right ≡ image ys c = sym (image_at ys am.one z a) ∙ ap (image ys) e in
        subst (λ u. (0 < u) × (u ≤ length g.cells)) f (subst (λ u. (0 < z.right) × (z.right ≤ u)) (sym same_many) (right_range z a))

    one_to_one : (c d : ℕ) → 0 < c → c ≤ length g.cells → 0 < d → d ≤ length g.cells → image ys c ≡ image ys d → c ≡ d
    one_to_one c d p q p' q' h =
        let (z, a, e) = reached_left c (reached c p q) in
        let (y, b, f) = reached_left d (reached d p' q') in
        let x : z.right ≡ image ys c = sym (image_at ys am.one z a) ∙ ap (image ys) e in
        let x' : y.right ≡ image ys d = sym (image_at ys am.one y b) ∙ ap (image ys) f in
        sym e ∙ one_left ys am.one z y a b (x ∙ h ∙ sym x') ∙ f

    elsewhere : (c : ℕ) → (c ≡ 0) ⊎ (length g.cells < c) → image ys c ≡ c
    elsewhere c h = image_elsewhere ys c (λ z a e. (let (low, high) = left_range z a in go z e low high h))
      where
        go : (z : Pair) → z.left ≡ c → 0 < z.left → z.left ≤ length g.cells → (c ≡ 0) ⊎ (length g.cells < c) → ⊥
        go z e low high (inl x) = omega (arith, e, x)
        go z e low high (inr x) = omega (arith, e, x)

    same_cells : (c d : ℕ) (x y : Referent) → slice_get g.cells c ≡ Some x → image ys (suc c) ≡ suc d → slice_get g'.cells d ≡ Some y
        → (x.of ≡ y.of) × (renumbered (image ys) (more x.val none) ≡ more y.val none)
    same_cells c d x y e h e' =
        let k = slice_get_within g.cells c x e in
        let (z, a, l) = reached_left (suc c) (reached (suc c) (omega arith) (omega arith)) in
        let r : z.right ≡ suc d = sym (image_at ys am.one z a) ∙ ap (image ys) l ∙ h in
        let f : PairFits two w g g' z = all_among (PairFits two w g g') ys z a am.fit in
        let m : IsClosed two w g g' ys z = all_among (IsClosed two w g g' ys) ys z a am.closed in
        let (u, eu, tu) = f.left_cell in
        let (v, ev, tv) = f.right_cell in
        let ux : u ≡ x = same_Some _ _ (sym eu ∙ ap (cell_of_number g) l ∙ e) in
        let vy : v ≡ y = same_Some _ _ (sym ev ∙ ap (cell_of_number g') r ∙ e') in
        let lx : cell_at g z.left ≡ x.val = ap cell_tree eu ∙ ap (λ q. q.val) ux in
        let ry : cell_at g' z.right ≡ y.val = ap cell_tree ev ∙ ap (λ q. q.val) vy in (
          ap (λ q. q.of) (sym ux) ∙ tu ∙ sym tv ∙ ap (λ q. q.of) vy,
          ap (λ q. renumbered (image ys) (more q none)) (sym lx)
              ∙ renumber ys am.one w.table (z.of ∷ []) (more (cell_at g z.left) none) (more (cell_at g' z.right) none) m
              ∙ ap (λ q. more q none) ry,
        )

    pub same_by_map : Same g g'
    same_by_map = record {
      image = image ys;
      as_many = same_many;
      within = within;
      one_to_one = one_to_one;
      elsewhere = elsewhere;
      roots = roots_renumbered (root_list w) g.roots g'.roots all_roots_in;
      cells = same_cells;
    }
