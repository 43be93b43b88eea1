-- Two graphs are the same exactly where they are alike when each cell is numbered by the order in which it is first named.
-- `g` and `h` are graphs, `s` is a map that carries g to h, `c` and `d` are cells' numbers, `t` and `u` trees, `k` is a place.
use Rattle.std.proofs.Common.{◌≡◌, ◌⊎◌, inl, inr, ℕ, ◌+◌, ◌-◌, ◌<◌, ◌≤◌, zero, suc, Bool, true, false, cond, eqb, List, [], ◌∷◌, ◌++◌, length, get_or, map, Option, Some, None, option_map, refl, ap}
use Rattle.std.proofs.Common.{ap₂, sym, ◌∙◌, subst, arith}
use Rattle.std.specs.Prelude.{leb}
use Rattle.std.specs.Bool.{Decides}
use Rattle.std.specs.List.{AllByRecursion, slice_get}
use Rattle.std.proofs.lemmas.Bool.{eqb-true, eqb-false, eq-eqb, ne_eqb, leb-true, leb-false}
use Rattle.std.proofs.lemmas.List.{map-append}
use Rattle.std.proofs.lemmas.Option.{slice_get-get_or, slice_get_past as none_past}
use Rattle.nd_value.specs.declared.value.Graph.{Graph}
use Rattle.nd_value.specs.declared.item.Home.{Home}
use Rattle.nd_value.specs.declared.item.Home.TheVariants as home
use Rattle.nd_value.specs.Tree as tree
use Rattle.nd_value.specs.Tree.{Tree, Trees, Label, node, none, more, cell_in, Referent, trees, items}
use Rattle.nd_value.specs.Setting.{Among, root_at, or_unread, cell_at, cell_tree, cell_of_number, cell_home, unread}
use Rattle.nd_value.specs.Canon.{target, has, number_from, canonical_number, Same, renumbered, renumbered_label}
use Rattle.nd_value.specs.Fitting.{Fitting, IsFit}
use Rattle.nd_value.specs.Names.{AreThere, HasNames, cells_in, named_by}
use Rattle.nd_flat.specs.Building.{referent_type}
use Rattle.nd_flat.specs.Renumbered.{renumbered_tree}
use Rattle.nd_graph.specs.Naming.{Naming, none_due, root_due, cell_due, stands_already, AreNamed, cell_homes, root_homes}
use Rattle.nd_graph.specs.Order.{IsOrder}
use Rattle.nd_graph.specs.Alike.{AreAlike, IsSameCell, number_by}
use Rattle.nd_graph.proofs.Carried.{carried_cell, get_map, among_mapped, mapped_from}
use Rattle.nd_graph.proofs.Complete.{cells_both}
use Rattle.nd_graph.proofs.Renumbered.{trees_on, tree_renumbered, image_of, image_inside, image_outside, roots_image, tree_image, there_at, fit_names}
use Rattle.nd_lemmas.proofs.Numbers.{zero_or}
use Rattle.nd_value.proofs.SameCells.{back as back_items}

-- ## One map after another

label_twice : (m k : ℕ → ℕ) (l : Label) → renumbered_label m (renumbered_label k l) ≡ renumbered_label (λ c. m (k c)) l
label_twice m k (tree.Ptr None) = refl
label_twice m k (tree.Ptr (Some c)) = refl
label_twice m k (tree.Num z) = refl
label_twice m k tree.Rec = refl
label_twice m k (tree.Arr a o) = refl
label_twice m k (tree.Text a os) = refl
label_twice m k (tree.Union v) = refl
label_twice m k (tree.Context a i) = refl
label_twice m k tree.Pipe = refl
label_twice m k tree.Unread = refl

twice : (m k : ℕ → ℕ) (ts : Trees) → renumbered m (renumbered k ts) ≡ renumbered (λ c. m (k c)) ts
twice m k none = refl
twice m k (more (node l ks) ts) = ap₂ more (ap₂ node (label_twice m k l) (twice m k ks)) (twice m k ts)

tree_twice : (m k : ℕ → ℕ) (t : Tree) → renumbered_tree m (renumbered_tree k t) ≡ renumbered_tree (λ c. m (k c)) t
tree_twice m k (node l ks) = ap₂ node (label_twice m k l) (twice m k ks)

pub label_still : (l : Label) → renumbered_label (λ c. c) l ≡ l
label_still (tree.Ptr None) = refl
label_still (tree.Ptr (Some c)) = refl
label_still (tree.Num z) = refl
label_still tree.Rec = refl
label_still (tree.Arr a o) = refl
label_still (tree.Text a os) = refl
label_still (tree.Union v) = refl
label_still (tree.Context a i) = refl
label_still tree.Pipe = refl
label_still tree.Unread = refl

pub still : (ts : Trees) → renumbered (λ c. c) ts ≡ ts
still none = refl
still (more (node l ks) ts) = ap₂ more (ap₂ node (label_still l) (still ks)) (still ts)

abbrev head_of : Trees → Tree
head_of none = node tree.Unread none
head_of (more t ts) = t

-- where two maps agree on what a tree names
tree_on : (m k : ℕ → ℕ) (t : Tree) → AllByRecursion (λ c. m c ≡ k c) (named_by t) → renumbered_tree m t ≡ renumbered_tree k t
tree_on m k t h = ap head_of (sym (tree_renumbered m t) ∙ trees_on m k (more t none) h ∙ tree_renumbered k t)

tree_still : (m : ℕ → ℕ) (t : Tree) → AllByRecursion (λ c. m c ≡ c) (named_by t) → renumbered_tree m t ≡ t
tree_still m t h = ap head_of (sym (tree_renumbered m t) ∙ trees_on m (λ c. c) (more t none) h ∙ still (more t none))

all_total : (P : ℕ → Type 0) (cs : List ℕ) → ((c : ℕ) → P c) → AllByRecursion P cs
all_total P [] f = tt
all_total P (c ∷ cs) f = (f c, all_total P cs f)

all_there : (P : ℕ → Type 0) (n : ℕ) (cs : List ℕ) → AreThere n cs → ((c : ℕ) → 0 < c → c ≤ n → P c) → AllByRecursion P cs
all_there P n [] h f = tt
all_there P n (c ∷ cs) h f = (f c h.0.0 h.0.1, all_there P n cs h.1 f)

-- lists whose elements are the same
same_lists : (F : Tree → Tree) (xs ys : List Tree) → length xs ≡ length ys → ((i : ℕ) → i < length xs → F (or_unread (slice_get xs i)) ≡ or_unread (slice_get ys i)) → map F xs ≡ ys
same_lists F [] [] l f = refl
same_lists F [] (y ∷ ys) l f = cc
same_lists F (x ∷ xs) [] l f = cc
same_lists F (x ∷ xs) (y ∷ ys) l f =
    ap₂ (λ (a : Tree) (as' : List Tree). a ∷ as') (f 0 (omega arith)) (same_lists F xs ys (omega (arith, l)) (λ i b. f (suc i) (omega (arith, b))))

some_below : {A : Type 0} (xs : List A) (i : ℕ) (x : A) → slice_get xs i ≡ Some x → suc i ≤ length xs
some_below [] i x e = cc
some_below (y ∷ xs) zero x e = omega arith
some_below (y ∷ xs) (suc i) x e = let l = some_below xs i x e in omega (arith, l)

root_there : (n : ℕ) (ts : List Tree) (i : ℕ) → AllByRecursion (λ t. AreThere n (named_by t)) ts → AreThere n (named_by (or_unread (slice_get ts i)))
root_there n [] i h = tt
root_there n (t ∷ ts) zero h = h.0
root_there n (t ∷ ts) (suc i) h = root_there n ts i h.1

cell_there : (n : ℕ) (xs : List Referent) (i : ℕ) → AllByRecursion (λ x. AreThere n (named_by x.val)) xs → AreThere n (named_by (cell_tree (slice_get xs i)))
cell_there n [] i h = tt
cell_there n (x ∷ xs) zero h = h.0
cell_there n (x ∷ xs) (suc i) h = cell_there n xs i h.1

-- ## Alike graphs are the same

module _ (g h : Graph) (ns cs ms ds : List ℕ) (left : IsOrder g ns cs) (right : IsOrder h ms ds) (gn : HasNames g) (hn : HasNames h)
    (a : AreAlike (number_by ns) (number_by ms) g h cs ds) where
  abbrev L : ℕ → ℕ
  L c = get_or ns c 0

  abbrev R : ℕ → ℕ
  R d = get_or ms d 0

  abbrev back : ℕ → ℕ
  back d = get_or ds (d - 1) 0

  abbrev carry : ℕ → ℕ
  carry c = back (L c)

  -- the place of a cell by its number
  place : (c : ℕ) → 0 < c → c ≤ length g.cells → (k : ℕ) × (L c ≡ suc k) × (k < length cs) × (get_or cs k 0 ≡ c) × (carry c ≡ get_or ds k 0)
  place c lo hi =
      elim (zero_or (L c)) as (λ _. (k : ℕ) × (L c ≡ suc k) × (k < length cs) × (get_or cs k 0 ≡ c) × (carry c ≡ get_or ds k 0)) [
        | inl e ↦ let l = left.numbered c lo hi in absurd (omega (arith, l, e))
        | inr p ↦
            let (l, f) = left.cell c p.0 p.1 in
            let q : suc p.0 - 1 ≡ p.0 = omega arith in
            (p.0, p.1, l, f, ap back p.1 ∙ ap (λ i. get_or ds i 0) q)
      ]

  below : (k : ℕ) → k < length cs → k < length ds
  below k l =
      let p = left.all in
      let q = right.all in
      let e = a.all_cells in
      omega (arith, l, p, q, e)

  carry_there : (c : ℕ) → 0 < c → c ≤ length g.cells → (0 < carry c) × (carry c ≤ length g.cells)
  carry_there c lo hi =
      let (k, e, l, f, q) = place c lo hi in
      let t = there_at (length h.cells) ds k (below k l) right.there in
      let all = a.all_cells in
      subst (λ u. (0 < u) × (u ≤ length g.cells)) (sym q) (t.0, let b = t.1 in omega (arith, b, all))

  number_kept : (c : ℕ) → 0 < c → c ≤ length g.cells → R (carry c) ≡ L c
  number_kept c lo hi =
      let (k, e, l, f, q) = place c lo hi in
      ap R q ∙ right.number k (below k l) ∙ sym e

  carry_one : (c d : ℕ) → 0 < c → c ≤ length g.cells → 0 < d → d ≤ length g.cells → carry c ≡ carry d → c ≡ d
  carry_one c d lo hi lo' hi' e =
      let same : L c ≡ L d = sym (number_kept c lo hi) ∙ ap R e ∙ number_kept d lo' hi' in
      let (k, f, l, q, r) = place c lo hi in
      sym q ∙ (left.cell d k (sym same ∙ f)).1

  back_number : (d : ℕ) → 0 < d → d ≤ length h.cells → back (R d) ≡ d
  back_number d lo hi =
      elim (zero_or (R d)) as (λ _. back (R d) ≡ d) [
        | inl e ↦ let l = right.numbered d lo hi in absurd (omega (arith, l, e))
        | inr p ↦
            let q : suc p.0 - 1 ≡ p.0 = omega arith in
            ap back p.1 ∙ ap (λ i. get_or ds i 0) q ∙ (right.cell d p.0 p.1).1
      ]

  -- trees that are alike are carried to one another
  tree_carried : (t u : Tree) → AreThere (length h.cells) (named_by u) → renumbered_tree L t ≡ renumbered_tree R u → renumbered_tree carry t ≡ u
  tree_carried t u there e =
      sym (tree_twice back L t) ∙ ap (renumbered_tree back) e ∙ tree_twice back R u
      ∙ tree_still (λ c. back (R c)) u (all_there (λ c. back (R c) ≡ c) (length h.cells) (named_by u) there back_number)

  types_same : (x y : Referent) (o q : Option Referent) → o ≡ Some x → q ≡ Some y → referent_type o ≡ referent_type q → x.of ≡ y.of
  types_same x y o q e f t = sym (ap referent_type e) ∙ t ∙ ap referent_type f

  pub alike_same : Same g h
  alike_same = record {
    image = image_of (length g.cells) carry;
    as_many = a.all_cells;
    within = λ c lo hi. subst (λ u. (0 < u) × (u ≤ length g.cells)) (sym (image_inside (length g.cells) carry c lo hi)) (carry_there c lo hi);
    one_to_one = λ c d lo hi lo' hi' e.
        carry_one c d lo hi lo' hi' (sym (image_inside (length g.cells) carry c lo hi) ∙ e ∙ image_inside (length g.cells) carry d lo' hi');
    elsewhere = λ c out. image_outside (length g.cells) carry c out;
    roots =
        roots_image (length g.cells) carry g.roots gn.roots
        ∙ ap trees (same_lists (renumbered_tree carry) g.roots h.roots a.all_roots
        (λ i l. tree_carried (root_at g i) (root_at h i) (root_there (length h.cells) h.roots i hn.roots) (a.roots i l)));
    cells = λ c d x y e f e'. (
        let hi : suc c ≤ length g.cells = some_below g.cells c x e in
        let moved : carry (suc c) ≡ suc d = sym (image_inside (length g.cells) carry (suc c) (omega arith) hi) ∙ f in
        let (k, p, l, q, r) = place (suc c) (omega arith) hi in
        let all = left.all in
        let one : IsSameCell (number_by ns) (number_by ms) g h (suc c) (suc d) =
        subst (λ u. IsSameCell (number_by ns) (number_by ms) g h u (suc d)) q
        (subst (λ u. IsSameCell (number_by ns) (number_by ms) g h (get_or cs k 0) u) (sym r ∙ moved) (a.cells k (omega (arith, l, all)))) in
        let val : renumbered_tree carry x.val ≡ y.val =
        tree_carried x.val y.val (subst (λ o. AreThere (length h.cells) (named_by (cell_tree o))) e' (cell_there (length h.cells) h.cells d hn.cells))
        (sym (ap (λ o. renumbered_tree L (cell_tree o)) e) ∙ one.val ∙ ap (λ o. renumbered_tree R (cell_tree o)) e') in (
          types_same x y (slice_get g.cells c) (slice_get h.cells d) e e' one.of,
          tree_image (length g.cells) carry x.val (subst (λ o. AreThere (length g.cells) (named_by (cell_tree o))) e (cell_there (length g.cells) g.cells c gn.cells))
              ∙ ap (λ t. more t none) val,
        ));
  }

-- ## One order

module _ (g : Graph) where
  pub one_naming : {st : List ℕ} {due : List Home} {xs ys : List ℕ} → Naming g st due xs → Naming g st due ys → xs ≡ ys
  one_naming none_due none_due = refl
  one_naming (root_due i a) (root_due _ b) = ap (λ u. named_by (root_at g i) ++ u) (one_naming a b)
  one_naming (cell_due c n a) (cell_due _ m b) = ap (λ u. named_by (cell_at g c) ++ u) (one_naming a b)
  one_naming (cell_due c n a) (stands_already _ s b) = absurd (n s)
  one_naming (stands_already c s a) (cell_due _ n b) = absurd (n s)
  one_naming (stands_already c s a) (stands_already _ t b) = one_naming a b

-- ## Graphs that are the same are alike

abbrev chosen : ℕ → Bool → Bool → ℕ → ℕ → ℕ
chosen n b e x y = elim b [ true ↦ x | false ↦ elim e [ true ↦ n | false ↦ y ] ]

by_tests : (n : ℕ) (b b' : Bool) → b ≡ b' → (e e' : Bool) → e ≡ e' → (x x' : ℕ) → x ≡ x' → (y y' : ℕ) → y ≡ y' → chosen n b e x y ≡ chosen n b' e' x' y'
by_tests n b b' p e e' q x x' r y y' t = ap (λ u. chosen n u e x y) p ∙ ap (λ u. chosen n b' u x y) q ∙ ap₂ (λ u v. chosen n b' e' u v) r t

module _ (g h : Graph) (same : Same g h) where
  abbrev s : ℕ → ℕ
  s = same.image

  in_or_out : (c : ℕ) → ((0 < c) × (c ≤ length g.cells)) ⊎ ((c ≡ 0) ⊎ (length g.cells < c))
  in_or_out zero = inr (inl refl)
  in_or_out (suc i) = go (leb (suc i) (length g.cells)) refl
    where
      go : (b : Bool) → leb (suc i) (length g.cells) ≡ b → ((0 < suc i) × (suc i ≤ length g.cells)) ⊎ ((suc i ≡ 0) ⊎ (length g.cells < suc i))
      go true e = inl (omega arith, leb-true (suc i) (length g.cells) e)
      go false e = inr (inr (let l = leb-false (suc i) (length g.cells) e in omega (arith, l)))

  injective : (c d : ℕ) → s c ≡ s d → c ≡ d
  injective c d e = go (in_or_out c) (in_or_out d)
    where
      go : ((0 < c) × (c ≤ length g.cells)) ⊎ ((c ≡ 0) ⊎ (length g.cells < c)) → ((0 < d) × (d ≤ length g.cells)) ⊎ ((d ≡ 0) ⊎ (length g.cells < d)) → c ≡ d
      go (inl p) (inl q) = same.one_to_one c d p.0 p.1 q.0 q.1 e
      go (inl p) (inr q) =
          let w = same.within c p.0 p.1 in
          let lo = w.0 in
          let hi = w.1 in
          let f = same.elsewhere d q in
          absurd (elim q [ inl z ↦ omega (arith, lo, e, f, z) | inr l ↦ omega (arith, hi, e, f, l) ])
      go (inr p) (inl q) =
          let w = same.within d q.0 q.1 in
          let lo = w.0 in
          let hi = w.1 in
          let f = same.elsewhere c p in
          absurd (elim p [ inl z ↦ omega (arith, lo, e, f, z) | inr l ↦ omega (arith, hi, e, f, l) ])
      go (inr p) (inr q) = sym (same.elsewhere c p) ∙ e ∙ same.elsewhere d q

  cells_carried : (ts : Trees) → cells_in (renumbered s ts) ≡ map s (cells_in ts)
  cells_carried none = refl
  cells_carried (more (node l ks) ts) =
      cells_both (renumbered_label s l) (renumbered s ks) (renumbered s ts)
      ∙ ap₂ (λ x y. x ++ y) (own l) (ap₂ (λ x y. x ++ y) (cells_carried ks) (cells_carried ts) ∙ sym (map-append s (cells_in ks) (cells_in ts)))
      ∙ sym (ap (map s) (cells_both l ks ts) ∙ map-append s (target (cell_in l)) (cells_in ks ++ cells_in ts))
    where
      own : (l : Label) → target (cell_in (renumbered_label s l)) ≡ map s (target (cell_in l))
      own (tree.Ptr None) = refl
      own (tree.Ptr (Some c)) = refl
      own (tree.Num z) = refl
      own tree.Rec = refl
      own (tree.Arr a o) = refl
      own (tree.Text a os) = refl
      own (tree.Union v) = refl
      own (tree.Context a i) = refl
      own tree.Pipe = refl
      own tree.Unread = refl

  names_carried : (t : Tree) → named_by (renumbered_tree s t) ≡ map s (named_by t)
  names_carried t = ap cells_in (sym (tree_renumbered s t)) ∙ cells_carried (more t none)

  trees_mapped : (ts : List Tree) → renumbered s (trees ts) ≡ trees (map (renumbered_tree s) ts)
  trees_mapped [] = refl
  trees_mapped (node l ks ∷ ts) = ap (more (node (renumbered_label s l) (renumbered s ks))) (trees_mapped ts)

  roots_are : h.roots ≡ map (renumbered_tree s) g.roots
  roots_are = sym (back_items h.roots) ∙ ap items (sym same.roots ∙ trees_mapped g.roots) ∙ back_items (map (renumbered_tree s) g.roots)

  or_unread_same : (o : Option Tree) → or_unread (option_map (renumbered_tree s) o) ≡ renumbered_tree s (or_unread o)
  or_unread_same None = refl
  or_unread_same (Some t) = refl

  root_is : (i : ℕ) → root_at h i ≡ renumbered_tree s (root_at g i)
  root_is i = ap (λ ts. or_unread (slice_get ts i)) roots_are ∙ ap or_unread (get_map (renumbered_tree s) g.roots i) ∙ or_unread_same (slice_get g.roots i)

  -- the cell that a cell is carried to
  cell_is : (c : ℕ) → cell_of_number h (s c) ≡ option_map (carried_cell s) (cell_of_number g c)
  cell_is c = go (in_or_out c)
    where
      found : (i : ℕ) → suc i ≤ length g.cells → (v : ℕ) → s (suc i) ≡ v → 0 < v → v ≤ length h.cells → cell_of_number h v ≡ option_map (carried_cell s) (slice_get g.cells i)
      found i hi zero e lo l = absurd (omega (arith, lo))
      found i hi (suc d) e lo l =
          let dummy : Referent = record { of = 0; val = unread } in
          let x : Referent = get_or g.cells i dummy in
          let y : Referent = get_or h.cells d dummy in
          let there : slice_get g.cells i ≡ Some x = slice_get-get_or g.cells i dummy hi in
          let beside : slice_get h.cells d ≡ Some y = slice_get-get_or h.cells d dummy l in
          let (t, v) = same.cells i d x y there e beside in
          let val : y.val ≡ renumbered_tree s x.val = ap head_of (sym v ∙ tree_renumbered s x.val) in
          beside ∙ ap Some (ap₂ (λ (o : ℕ) (u : Tree). record { of = o; val = u }) (sym t) val) ∙ sym (ap (option_map (carried_cell s)) there)

      inside : (k : ℕ) → 0 < k → k ≤ length g.cells → cell_of_number h (s k) ≡ option_map (carried_cell s) (cell_of_number g k)
      inside zero lo hi = absurd (omega (arith, lo))
      inside (suc i) lo hi =
          let w = same.within (suc i) lo hi in
          let top = w.1 in
          let many = same.as_many in
          found i hi (s (suc i)) refl w.0 (omega (arith, top, many))

      outside : (k : ℕ) → (k ≡ 0) ⊎ (length g.cells < k) → cell_of_number h k ≡ option_map (carried_cell s) (cell_of_number g k)
      outside zero o = refl
      outside (suc i) (inl e) = cc
      outside (suc i) (inr l) =
          let many = same.as_many in
          none_past h.cells i (omega (arith, l, many)) ∙ sym (ap (option_map (carried_cell s)) (none_past g.cells i (omega (arith, l))))

      go : ((0 < c) × (c ≤ length g.cells)) ⊎ ((c ≡ 0) ⊎ (length g.cells < c)) → cell_of_number h (s c) ≡ option_map (carried_cell s) (cell_of_number g c)
      go (inl p) = inside c p.0 p.1
      go (inr p) = ap (cell_of_number h) (same.elsewhere c p) ∙ outside c p

  tree_of_cell : (o : Option Referent) → cell_tree (option_map (carried_cell s) o) ≡ renumbered_tree s (cell_tree o)
  tree_of_cell None = refl
  tree_of_cell (Some x) = refl

  value_is : (c : ℕ) → cell_at h (s c) ≡ renumbered_tree s (cell_at g c)
  value_is c = ap cell_tree (cell_is c) ∙ tree_of_cell (cell_of_number g c)

  -- ### The order in which cells are named is carried

  abbrev home_carried : Home → Home
  home_carried (home.Root i) = home.Root i
  home_carried (home.Cell c) = cell_home (s c.0)

  homes_carried : (cs : List ℕ) → map home_carried (cell_homes cs) ≡ cell_homes (map s cs)
  homes_carried [] = refl
  homes_carried (c ∷ cs) = ap (λ u. cell_home (s c) ∷ u) (homes_carried cs)

  due_carried : (cs : List ℕ) (due : List Home) → map home_carried (cell_homes cs ++ due) ≡ cell_homes (map s cs) ++ map home_carried due
  due_carried cs due = map-append home_carried (cell_homes cs) due ∙ ap (λ u. u ++ map home_carried due) (homes_carried cs)

  free : (st : List ℕ) (c : ℕ) → ¬ Among st c → ¬ Among (map s st) (s c)
  free st c n a = let (x, b, e) = mapped_from s st (s c) a in n (subst (λ u. Among st u) (sym (injective c x e)) b)

  naming_carried : {st : List ℕ} {due : List Home} {ns : List ℕ} → Naming g st due ns → Naming h (map s st) (map home_carried due) (map s ns)
  naming_carried none_due = none_due
  naming_carried (root_due {stands = st} {ns = ns} {due = due} i d) =
      let cs : List ℕ = named_by (root_at g i) in
      let names : named_by (root_at h i) ≡ map s cs = ap named_by (root_is i) ∙ names_carried (root_at g i) in
      let d' : Naming h (map s st) (cell_homes (named_by (root_at h i)) ++ map home_carried due) (map s ns) =
      subst (λ u. Naming h (map s st) (cell_homes u ++ map home_carried due) (map s ns)) (sym names)
      (subst (λ u. Naming h (map s st) u (map s ns)) (due_carried cs due) (naming_carried d)) in
      subst (λ u. Naming h (map s st) (home.Root i ∷ map home_carried due) u) (ap (λ u. u ++ map s ns) names ∙ sym (map-append s cs ns)) (root_due i d')
  naming_carried (cell_due {stands = st} {ns = ns} {due = due} c n d) =
      let cs : List ℕ = named_by (cell_at g c) in
      let names : named_by (cell_at h (s c)) ≡ map s cs = ap named_by (value_is c) ∙ names_carried (cell_at g c) in
      let d' : Naming h (s c ∷ map s st) (cell_homes (named_by (cell_at h (s c))) ++ map home_carried due) (map s ns) =
      subst (λ u. Naming h (s c ∷ map s st) (cell_homes u ++ map home_carried due) (map s ns)) (sym names)
      (subst (λ u. Naming h (s c ∷ map s st) u (map s ns)) (due_carried cs due) (naming_carried d)) in
      subst (λ u. Naming h (map s st) (cell_home (s c) ∷ map home_carried due) u) (ap (λ u. u ++ map s ns) names ∙ sym (map-append s cs ns))
      (cell_due (s c) (free st c n) d')
  naming_carried (stands_already {stands = st} c b d) = stands_already (s c) (among_mapped s st c b) (naming_carried d)

  roots_carried : (i n : ℕ) → map home_carried (root_homes i n) ≡ root_homes i n
  roots_carried i zero = refl
  roots_carried i (suc n) = ap (λ u. home.Root i ∷ u) (roots_carried (suc i) n)

  map_length : {A B : Type 0} (f : A → B) (xs : List A) → length (map f xs) ≡ length xs
  map_length f [] = refl
  map_length f (x ∷ xs) = ap suc (map_length f xs)

  many_roots : length h.roots ≡ length g.roots
  many_roots = ap length roots_are ∙ map_length (renumbered_tree s) g.roots

  named_carried : (ns : List ℕ) → AreNamed g ns → AreNamed h (map s ns)
  named_carried ns d =
      subst (λ n. Naming h [] (root_homes 0 n) (map s ns)) (sym many_roots)
      (subst (λ u. Naming h [] u (map s ns)) (roots_carried 0 (length g.roots)) (naming_carried d))

  -- ### Numbers

  eqb_carried : (c d : ℕ) → eqb (s c) (s d) ≡ eqb c d
  eqb_carried c d = go (eqb c d) refl
    where
      go : (b : Bool) → eqb c d ≡ b → eqb (s c) (s d) ≡ eqb c d
      go true e = eq-eqb (s c) (s d) (ap s (eqb-true c d e)) ∙ sym e
      go false e = ne_eqb (s c) (s d) (λ f. eqb-false c d e (injective c d f)) ∙ sym e

  has_carried : (ds : List ℕ) (c : ℕ) → has (map s ds) (s c) ≡ has ds c
  has_carried [] c = refl
  has_carried (d ∷ ds) c = ap₂ (λ a b. cond a true b) (eqb_carried c d) (has_carried ds c)

  number_carried : (n : ℕ) (seen ds : List ℕ) (c : ℕ) → number_from n (map s seen) (map s ds) (s c) ≡ number_from n seen ds c
  number_carried n seen [] c = refl
  number_carried n seen (d ∷ ds) c =
      by_tests n (has (map s seen) (s d)) (has seen d) (has_carried seen d) (eqb (s c) (s d)) (eqb c d) (eqb_carried c d)
      (number_from n (map s seen) (map s ds) (s c)) (number_from n seen ds c) (number_carried n seen ds c)
      (number_from (n + 1) (map s (d ∷ seen)) (map s ds) (s c)) (number_from (n + 1) (d ∷ seen) ds c) (number_carried (n + 1) (d ∷ seen) ds c)

  module _ (ns cs ms ds : List ℕ) (left : IsOrder g ns cs) (right : IsOrder h ms ds) where
    number_same : (c : ℕ) → get_or ms (s c) 0 ≡ get_or ns c 0
    number_same c =
        right.canonical (s c)
        ∙ ap (λ u. canonical_number u (s c)) (one_naming h right.named (named_carried left.names left.named))
        ∙ number_carried 1 [] left.names c ∙ sym (left.canonical c)

    tree_same : (t : Tree) → renumbered_tree (number_by ns) t ≡ renumbered_tree (number_by ms) (renumbered_tree s t)
    tree_same t =
        sym (tree_twice (number_by ms) s t
        ∙ tree_on (λ c. number_by ms (s c)) (number_by ns) t (all_total (λ c. number_by ms (s c) ≡ number_by ns c) (named_by t) number_same))

    type_same : (o : Option Referent) → referent_type o ≡ referent_type (option_map (carried_cell s) o)
    type_same None = refl
    type_same (Some x) = refl

    cell_same : (c : ℕ) → IsSameCell (number_by ns) (number_by ms) g h c (s c)
    cell_same c = record {
      of = type_same (cell_of_number g c) ∙ sym (ap referent_type (cell_is c));
      val = tree_same (cell_at g c) ∙ sym (ap (renumbered_tree (number_by ms)) (value_is c));
    }

    pub same_alike : AreAlike (number_by ns) (number_by ms) g h cs ds
    same_alike = record {
      all_roots = sym many_roots;
      all_cells = same.as_many;
      roots = λ i l. tree_same (root_at g i) ∙ sym (ap (renumbered_tree (number_by ms)) (root_is i));
      cells = λ k l. (
          let all = left.all in
          let number : get_or ns (get_or cs k 0) 0 ≡ suc k = left.number k (omega (arith, l, all)) in
          let image : get_or ds k 0 ≡ s (get_or cs k 0) = (right.cell (s (get_or cs k 0)) k (number_same (get_or cs k 0) ∙ number)).1 in
          subst (λ u. IsSameCell (number_by ns) (number_by ms) g h (get_or cs k 0) u) (sym image) (cell_same (get_or cs k 0)));
    }

-- ## Fits

-- what is decided of two fits
pub same_decided : (f q : Fitting) → IsFit f → IsFit q → (g h g' h' : Graph) (ns cs ms ds : List ℕ) (r : Bool) → g ≡ f.graph → h ≡ q.graph → g' ≡ f.graph → h' ≡ q.graph
    → IsOrder g ns cs → IsOrder h ms ds → Decides r (AreAlike (number_by ns) (number_by ms) g' h' cs ds) → Decides r (Same f.graph q.graph)
same_decided f q kf kq g h g' h' ns cs ms ds r eg eh eg' eh' left right d =
    let l : IsOrder f.graph ns cs = subst (λ (u : Graph). IsOrder u ns cs) eg left in
    let k : IsOrder q.graph ms ds = subst (λ (u : Graph). IsOrder u ms ds) eh right in
    let e : Decides r (AreAlike (number_by ns) (number_by ms) f.graph q.graph cs ds) =
    subst (λ (u : Graph). Decides r (AreAlike (number_by ns) (number_by ms) f.graph u cs ds)) eh'
    (subst (λ (u : Graph). Decides r (AreAlike (number_by ns) (number_by ms) u h' cs ds)) eg' d) in (
      (λ z. alike_same f.graph q.graph ns cs ms ds l k (fit_names f kf) (fit_names q kq) (e.0 z)),
      (λ s. e.1 (same_alike f.graph q.graph s ns cs ms ds l k)),
    )
