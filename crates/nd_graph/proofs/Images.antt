-- Maps of cells that are one to one: each number is hit, maps are composed and undone, and so is being the same up to the numbers of cells.
-- `g`, `h` and `c` are graphs, `n` is how many cells there are, `m` is a map of their numbers, `i` and `j` are indices of cells, `x`, `y` and `z` cells.
use Rattle.std.proofs.Common.{◌≡◌, ◌⊎◌, inl, inr, ℕ, zero, suc, ◌<◌, ◌≤◌, Bool, true, false, eqb, List, [], ◌∷◌, length, map, Some, None, refl, ap, ap₂, sym, ◌∙◌, subst, arith, get_or}
use Rattle.std.specs.List.{slice_get, AllByRecursion}
use Rattle.std.proofs.lemmas.Bool.{eqb-true, eq-eqb, both_ways, cases_lt}
use Rattle.std.proofs.lemmas.Option.{slice_get-get_or, slice_get_within}
use Rattle.nd_value.specs.declared.value.Graph.{Graph}
use Rattle.nd_value.specs.Tree as tree
use Rattle.nd_value.specs.Tree.{Tree, Trees, node, none, more, Label, Referent, trees}
use Rattle.nd_value.specs.Setting.{Among}
use Rattle.nd_value.specs.Canon.{Same, renumbered, renumbered_label}
use Rattle.nd_grammar.proofs.next.Counting.{Distinct, no_longer, down, among_down}
use Rattle.nd_graph.proofs.Alike.{still as unchanged}

-- the first of trees, and the others
abbrev pub first_tree : Trees → Tree
first_tree none = node tree.Unread none
first_tree (more t ts) = t

abbrev pub rest_trees : Trees → Trees
rest_trees none = none
rest_trees (more t ts) = ts

-- ## Maps that hit every number

module _ (n : ℕ) (m : ℕ → ℕ) (within : (c : ℕ) → 0 < c → c ≤ n → (0 < m c) × (m c ≤ n)) (apart : (c d : ℕ) → 0 < c → c ≤ n → 0 < d → d ≤ n → m c ≡ m d → c ≡ d) where
  among_map : (xs : List ℕ) (d : ℕ) → Among (map m xs) d → (c : ℕ) × Among xs c × (m c ≡ d)
  among_map [] d a = absurd a
  among_map (x ∷ xs) d (inl e) = (x, inl refl, sym e)
  among_map (x ∷ xs) d (inr a) = let r = among_map xs d a in (r.0, inr r.1, r.2)

  down_within : (k c : ℕ) → Among (down k) c → (0 < c) × (c ≤ k)
  down_within zero c a = absurd a
  down_within (suc k) c (inl e) = (omega (arith, e), omega (arith, e))
  down_within (suc k) c (inr a) = let r = down_within k c a in (r.0, omega (arith, r.1))

  all_but : (x : ℕ) (xs : List ℕ) → ((y : ℕ) → Among xs y → m x ≡ m y → ⊥) → AllByRecursion (λ y. m x ≡ y → ⊥) (map m xs)
  all_but x [] f = tt
  all_but x (y ∷ ys) f = (f y (inl refl), all_but x ys (λ z a. f z (inr a)))

  images_distinct : (k : ℕ) → k ≤ n → Distinct (map m (down k))
  images_distinct zero few = tt
  images_distinct (suc k) few = (
    all_but (suc k) (down k) (λ y a e. let r = down_within k y a in
        let same : suc k ≡ y = apart (suc k) y (omega arith) few r.0 (omega (arith, r.1, few)) e in omega (arith, same, r.1)),
    images_distinct k (omega (arith, few)),
  )

  map_length : (xs : List ℕ) → length (map m xs) ≡ length xs
  map_length [] = refl
  map_length (x ∷ xs) = ap suc (map_length xs)

  not_among : (xs : List ℕ) (d : ℕ) → (Among xs d → ⊥) → AllByRecursion (λ y. d ≡ y → ⊥) xs
  not_among [] d f = tt
  not_among (x ∷ xs) d f = ((λ e. f (inl e)), not_among xs d (λ a. f (inr a)))

  images_within : (d : ℕ) → Among (map m (down n)) d → Among (down n) d
  images_within d a =
      let r = among_map (down n) d a in
      let v = down_within n r.0 r.1 in
      let u = within r.0 v.0 v.1 in
      subst (λ y. Among (down n) y) r.2 (among_down n (m r.0) u.0 u.1)

  pub hit : (d : ℕ) → 0 < d → d ≤ n → (c : ℕ) × (0 < c) × (c ≤ n) × (m c ≡ d)
  hit d some few = by (decided (map m (down n))) where
    decided : (xs : List ℕ) → Among xs d ⊎ (Among xs d → ⊥)
    decided [] = inr (λ a. a)
    decided (x ∷ xs) = one (eqb d x) refl (decided xs) where
      one : (b : Bool) → eqb d x ≡ b → Among xs d ⊎ (Among xs d → ⊥) → Among (x ∷ xs) d ⊎ (Among (x ∷ xs) d → ⊥)
      one true e r = inl (inl (eqb-true d x e))
      one false e (inl a) = inl (inr a)
      one false e (inr f) = inr (λ a. elim a [ inl q ↦ both_ways (eqb d x) e (eq-eqb d x q) | inr q ↦ f q ])

    by : Among (map m (down n)) d ⊎ (Among (map m (down n)) d → ⊥) → (c : ℕ) × (0 < c) × (c ≤ n) × (m c ≡ d)
    by (inl a) =
        let r = among_map (down n) d a in
        let v = down_within n r.0 r.1 in
        (r.0, v.0, v.1, r.2)
    by (inr f) =
        let long : suc (length (map m (down n))) ≤ length (down n) =
        no_longer (d ∷ map m (down n)) (down n) (not_among (map m (down n)) d f, images_distinct n (omega arith))
        (λ x a. elim a [ inl e ↦ subst (λ y. Among (down n) y) (sym e) (among_down n d some few) | inr q ↦ images_within x q ]) in
        absurd (omega (arith, long, map_length (down n)))

-- ## Cells that are carried

abbrev nothing : Referent
nothing = record { of = 0; val = node tree.Unread none }

module _ (g h : Graph) (s : Same g h) where
  -- the cell of g that a cell of h is
  pub record CameFrom (j : ℕ) (y : Referent) : Type 0 where
    pub index : ℕ
    pub cell : Referent
    pub there : slice_get g.cells index ≡ Some cell
    pub image : s.image (suc index) ≡ suc j
    pub of : cell.of ≡ y.of
    pub val : renumbered s.image (more cell.val none) ≡ more y.val none

  -- the cell of h that a cell of g is
  pub record GoesTo (i : ℕ) (x : Referent) : Type 0 where
    pub index : ℕ
    pub cell : Referent
    pub there : slice_get h.cells index ≡ Some cell
    pub image : s.image (suc i) ≡ suc index
    pub of : x.of ≡ cell.of
    pub val : renumbered s.image (more x.val none) ≡ more cell.val none

  pub came_from : (j : ℕ) (y : Referent) → slice_get h.cells j ≡ Some y → CameFrom j y
  came_from j y e =
      let low : j < length h.cells = slice_get_within h.cells j y e in
      let few : suc j ≤ length g.cells = omega (arith, low, s.as_many) in
      let r = hit (length g.cells) s.image s.within s.one_to_one (suc j) (omega arith) few in
      by r.0 r.1 r.2 r.3
    where
      by : (k : ℕ) → 0 < k → k ≤ length g.cells → s.image k ≡ suc j → CameFrom j y
      by zero some few i = absurd (omega (arith, some))
      by (suc i) some few im =
          let there : slice_get g.cells i ≡ Some (get_or g.cells i nothing) = slice_get-get_or g.cells i nothing (omega (arith, few)) in
          let same = s.cells i j (get_or g.cells i nothing) y there im e in
          record { index = i; cell = get_or g.cells i nothing; there = there; image = im; of = same.0; val = same.1 }

  pub goes_to : (i : ℕ) (x : Referent) → slice_get g.cells i ≡ Some x → GoesTo i x
  goes_to i x e = by (s.image (suc i)) refl where
    low : i < length g.cells
    low = slice_get_within g.cells i x e

    inside : (0 < s.image (suc i)) × (s.image (suc i) ≤ length g.cells)
    inside = s.within (suc i) (omega arith) (omega (arith, low))

    by : (k : ℕ) → s.image (suc i) ≡ k → GoesTo i x
    by zero im = absurd (omega (arith, inside.0, im))
    by (suc j) im =
        let there : slice_get h.cells j ≡ Some (get_or h.cells j nothing) = slice_get-get_or h.cells j nothing (omega (arith, inside.1, im, s.as_many)) in
        let same = s.cells i j x (get_or h.cells j nothing) e im there in
        record { index = j; cell = get_or h.cells j nothing; there = there; image = im; of = same.0; val = same.1 }

-- ## Maps one after the other

module _ (p q r : ℕ → ℕ) (one_by_one : (k : ℕ) → p (q k) ≡ r k) where
  label_carried_on : (l : Label) → renumbered_label p (renumbered_label q l) ≡ renumbered_label r l
  label_carried_on (tree.Ptr None) = refl
  label_carried_on (tree.Ptr (Some k)) = ap (λ d. tree.Ptr (Some d)) (one_by_one k)
  label_carried_on _ = refl

  pub carried_on : (ts : Trees) → renumbered p (renumbered q ts) ≡ renumbered r ts
  carried_on none = refl
  carried_on (more (node l ks) ts) =
      ap₂ (λ (a : Label) (us : Trees). more (node a us) (renumbered p (renumbered q ts))) (label_carried_on l) (carried_on ks)
      ∙ ap (λ (us : Trees). more (node (renumbered_label r l) (renumbered r ks)) us) (carried_on ts)

-- ## Graphs that are the same as one

module _ (g h c : Graph) (s : Same g c) (t : Same h c) where
  same_count : length g.cells ≡ length h.cells
  same_count = s.as_many ∙ sym t.as_many

  abbrev IsIn : ℕ → Type 0
  IsIn k = (0 < k) × (k ≤ length h.cells)

  abbrev IsOut : ℕ → Type 0
  IsOut k = (k ≡ 0) ⊎ (length h.cells < k)

  in_or_out : (k : ℕ) → IsIn k ⊎ IsOut k
  in_or_out k = by (cases_lt 0 k) (cases_lt (length h.cells) k) where
    by : (0 < k) ⊎ (k ≤ 0) → (length h.cells < k) ⊎ (k ≤ length h.cells) → IsIn k ⊎ IsOut k
    by (inl some) (inr few) = inl (some, few)
    by (inl some) (inl many) = inr (inr many)
    by (inr few) o = inr (inl (omega (arith, few)))

  not_both : (k : ℕ) → IsIn k → IsOut k → ⊥
  not_both k i (inl e) = omega (arith, i.0, e)
  not_both k i (inr f) = omega (arith, i.1, f)

  -- the number of a cell of h by its image
  record Undone (d : ℕ) : Type 0 where
    pub number : ℕ
    pub image : t.image number ≡ d
    pub inside : IsIn d → IsIn number
    pub outside : IsOut d → number ≡ d

  undone : (d : ℕ) → Undone d
  undone d = by (in_or_out d) where
    by : IsIn d ⊎ IsOut d → Undone d
    by (inl i) =
        let r = hit (length h.cells) t.image t.within t.one_to_one d i.0 i.1 in
        record { number = r.0; image = r.3; inside = λ x. (r.1, r.2); outside = λ o. absurd (not_both d i o) }
    by (inr o) = record { number = d; image = t.elsewhere d o; inside = λ i. absurd (not_both d i o); outside = λ x. refl }

  abbrev back : ℕ → ℕ
  back d = (undone d).number

  back_again : (k : ℕ) → back (t.image k) ≡ k
  back_again k = by (undone (t.image k)) (in_or_out k) where
    by : (u : Undone (t.image k)) → IsIn k ⊎ IsOut k → u.number ≡ k
    by u (inl i) = let a = u.inside (t.within k i.0 i.1) in t.one_to_one u.number k a.0 a.1 i.0 i.1 u.image
    by u (inr o) = let e = t.elsewhere k o in u.outside (subst IsOut (sym e) o) ∙ e

  trees_back : (ts : Trees) → renumbered back (renumbered t.image ts) ≡ ts
  trees_back ts = carried_on back t.image (λ k. k) back_again ts ∙ unchanged ts

  abbrev m : ℕ → ℕ
  m k = back (s.image k)

  trees_over : (ts us : Trees) → renumbered s.image ts ≡ renumbered t.image us → renumbered m ts ≡ us
  trees_over ts us e = sym (carried_on back s.image m (λ k. refl) ts) ∙ ap (renumbered back) e ∙ trees_back us

  -- the numbers of cells of g are within their count
  image_within : (k : ℕ) → 0 < k → k ≤ length g.cells → (0 < m k) × (m k ≤ length g.cells)
  image_within k some few =
      let r = s.within k some few in
      let i = (undone (s.image k)).inside (r.0, omega (arith, r.1, same_count)) in
      (i.0, omega (arith, i.1, same_count))

  image_elsewhere : (k : ℕ) → (k ≡ 0) ⊎ (length g.cells < k) → m k ≡ k
  image_elsewhere k o = let e = s.elsewhere k o in (undone (s.image k)).outside (by o e) ∙ e where
    by : (k ≡ 0) ⊎ (length g.cells < k) → s.image k ≡ k → IsOut (s.image k)
    by (inl z) e = inl (e ∙ z)
    by (inr f) e = inr (omega (arith, e, f, same_count))

  cells_over : (i j : ℕ) (x y : Referent) → slice_get g.cells i ≡ Some x → m (suc i) ≡ suc j → slice_get h.cells j ≡ Some y → (x.of ≡ y.of) × (renumbered m (more x.val none) ≡ more y.val none)
  cells_over i j x y ex im ey =
      let a = goes_to g c s i x ex in
      let b = t.cells j a.index y a.cell ey (ap t.image (sym im) ∙ (undone (s.image (suc i))).image ∙ a.image) a.there in
      (a.of ∙ sym b.0, trees_over (more x.val none) (more y.val none) (a.val ∙ sym b.1))

  pub same_as_one : Same g h
  same_as_one = record {
    image = m;
    as_many = same_count;
    within = image_within;
    one_to_one = λ k d sk fk sd fd e. s.one_to_one k d sk fk sd fd (sym (undone (s.image k)).image ∙ ap t.image e ∙ (undone (s.image d)).image);
    elsewhere = image_elsewhere;
    roots = trees_over (trees g.roots) (trees h.roots) (s.roots ∙ sym t.roots);
    cells = cells_over;
  }
