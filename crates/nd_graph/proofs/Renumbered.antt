-- The graph whose cells are numbered by the order in which they are named.
-- `g` is a graph, `numbers` and `cells` its order, `c` and `d` are cells' numbers, `k` is a place, `f` a fit.
use Rattle.std.proofs.Common.{◌≡◌, ◌⊎◌, inl, inr, ℕ, ◌<◌, ◌≤◌, ◌^◌, zero, suc, Bool, true, false, not, ◌&&◌, eqb, List, [], ◌∷◌, ◌++◌, length, get_or, map, Option, Some, None, Result, Ok, Err}
use Rattle.std.proofs.Common.{option_map, refl, ap, ap₂, sym, ◌∙◌, subst, arith}
use Rattle.std.specs.Prelude.{leb, IfOk}
use Rattle.std.specs.List.{AllByRecursion, slice_get}
use Rattle.std.proofs.lemmas.Bool.{eqb-false, ne_eqb, leb-true, leb-false, le-leb, not-true, and_parts}
use Rattle.std.proofs.lemmas.Option.{same_Some, slice_get-get_or, slice_get_past as none_past}
use Rattle.std.proofs.lemmas.List.{length-map}
use Rattle.nd_types.specs.Roots.{roots_of, named_root, named_roots}
use Rattle.nd_value.specs.declared.value.Graph.{Graph}
use Rattle.nd_value.specs.Tree as tree
use Rattle.nd_value.specs.Tree.{Tree, Trees, Label, node, none, more, cell_in, Referent, trees}
use Rattle.nd_value.specs.Setting.{Setting, root_list, cell_tree, cell_of_number}
use Rattle.nd_value.specs.Canon.{canonical_number, target, Same, renumbered, renumbered_label}
use Rattle.nd_value.specs.Fitting.{Fitting, IsFit, setting_beside}
use Rattle.nd_value.specs.Names.{AreThere, HasNames, cells_in, named_by}
use Rattle.nd_value.proofs.Apart.{all_left, all_right}
use Rattle.nd_value.proofs.FewRoots.{few_named_roots}
use Rattle.nd_flat.specs.Building.{referent_type}
use Rattle.nd_flat.specs.Renumbered.{renumbered_tree, renumbered_cell, renumbered_graph, renumbered_fitting}
use Rattle.nd_graph.specs.Canonical.{IsCanonical}
use Rattle.nd_graph.specs.Order.{IsOrder, IsAllNamed}
use Rattle.nd_graph.proofs.Carried.{Renumbers, carried_cell, conforms_as_before, get_map}
use Rattle.nd_lemmas.proofs.Lists.{length_map}
use Rattle.nd_graph.proofs.Complete.{cells_both, has_names, all_named}
use Rattle.nd_lemmas.proofs.Numbers.{zero_or}

-- ## Maps that agree on the cells that pointers name

module _ (m m' : ℕ → ℕ) where
  label_on : (l : Label) → AllByRecursion (λ c. m c ≡ m' c) (target (cell_in l)) → renumbered_label m l ≡ renumbered_label m' l
  label_on (tree.Ptr None) h = refl
  label_on (tree.Ptr (Some c)) h = ap (λ u. tree.Ptr (Some u)) h.0
  label_on (tree.Num z) h = refl
  label_on tree.Rec h = refl
  label_on (tree.Arr a o) h = refl
  label_on (tree.Text a os) h = refl
  label_on (tree.Union v) h = refl
  label_on (tree.Context a i) h = refl
  label_on tree.Pipe h = refl
  label_on tree.Unread h = refl

  pub trees_on : (ts : Trees) → AllByRecursion (λ c. m c ≡ m' c) (cells_in ts) → renumbered m ts ≡ renumbered m' ts
  trees_on none h = refl
  trees_on (more (node l ks) ts) h =
      let P : ℕ → Type 0 = λ c. m c ≡ m' c in
      let a : AllByRecursion P (target (cell_in l) ++ (cells_in ks ++ cells_in ts)) = subst (AllByRecursion P) (cells_both l ks ts) h in
      let b : AllByRecursion P (cells_in ks ++ cells_in ts) = all_right P (target (cell_in l)) (cells_in ks ++ cells_in ts) a in
      ap₂ more
      (ap₂ node (label_on l (all_left P (target (cell_in l)) (cells_in ks ++ cells_in ts) a)) (trees_on ks (all_left P (cells_in ks) (cells_in ts) b)))
      (trees_on ts (all_right P (cells_in ks) (cells_in ts) b))

pub tree_renumbered : (m : ℕ → ℕ) (t : Tree) → renumbered m (more t none) ≡ more (renumbered_tree m t) none
tree_renumbered m (node l ks) = refl

abbrev first_of : Trees → Tree
first_of none = node tree.Unread none
first_of (more t ts) = t

-- a cell's number is its image, any other number stays
abbrev inside : ℕ → ℕ → Bool
inside n c = not (eqb c 0) && leb c n

abbrev pub image_by : Bool → ℕ → ℕ → ℕ
image_by b x c = elim b [ true ↦ x | false ↦ c ]

abbrev pub image_of : ℕ → (ℕ → ℕ) → ℕ → ℕ
image_of n m c = image_by (inside n c) (m c) c

pub image_inside : (n : ℕ) (m : ℕ → ℕ) (c : ℕ) → 0 < c → c ≤ n → image_of n m c ≡ m c
image_inside n m c lo hi =
    ap (λ b. image_by b (m c) c) (ap₂ (λ x y. not x && y) (ne_eqb c 0 (λ e. omega (arith, e, lo))) (le-leb c n hi))

pub image_outside : (n : ℕ) (m : ℕ → ℕ) (c : ℕ) → (c ≡ 0) ⊎ (n < c) → image_of n m c ≡ c
image_outside n m c h = go (inside n c) refl h
  where
    go : (b : Bool) → inside n c ≡ b → (c ≡ 0) ⊎ (n < c) → image_by b (m c) c ≡ c
    go false e h = refl
    go true e (inl z) = absurd (eqb-false c 0 (not-true _ (and_parts (not (eqb c 0)) (leb c n) e).0) z)
    go true e (inr l) = let u = leb-true c n (and_parts (not (eqb c 0)) (leb c n) e).1 in absurd (omega (arith, u, l))

there_image : (n : ℕ) (m : ℕ → ℕ) (cs : List ℕ) → AreThere n cs → AllByRecursion (λ c. image_of n m c ≡ m c) cs
there_image n m [] h = tt
there_image n m (c ∷ cs) h = (image_inside n m c h.0.0 h.0.1, there_image n m cs h.1)

pub tree_image : (n : ℕ) (m : ℕ → ℕ) (t : Tree) → AreThere n (named_by t) → renumbered (image_of n m) (more t none) ≡ more (renumbered_tree m t) none
tree_image n m t h = trees_on (image_of n m) m (more t none) (there_image n m (named_by t) h) ∙ tree_renumbered m t

pub roots_image : (n : ℕ) (m : ℕ → ℕ) (ts : List Tree) → AllByRecursion (λ t. AreThere n (named_by t)) ts → renumbered (image_of n m) (trees ts) ≡ trees (map (renumbered_tree m) ts)
roots_image n m [] h = refl
roots_image n m (node l ks ∷ ts) h =
    let first : renumbered (image_of n m) (more (node l ks) none) ≡ more (renumbered_tree m (node l ks)) none = tree_image n m (node l ks) h.0 in
    ap₂ (λ (a : Tree) (us : Trees). more a us) (ap first_of first) (roots_image n m ts h.1)

pub there_at : (n : ℕ) (cs : List ℕ) (k : ℕ) → k < length cs → AreThere n cs → (0 < get_or cs k 0) × (get_or cs k 0 ≤ n)
there_at n [] k l h = absurd (omega (arith, l))
there_at n (c ∷ cs) zero l h = h.0
there_at n (c ∷ cs) (suc k) l h = there_at n cs k (omega (arith, l)) h.1

-- ## The renumbered graph

module _ (g : Graph) (numbers cells : List ℕ) (o : IsOrder g numbers cells) where
  abbrev m : ℕ → ℕ
  m c = get_or numbers c 0

  abbrev h : Graph
  h = renumbered_graph numbers cells g

  small : (c : ℕ) → m c ≤ length g.cells
  small c =
      elim (zero_or (m c)) as (λ _. m c ≤ length g.cells) [
        | inl e ↦ omega (arith, e)
        | inr p ↦ let (l, s) = o.cell c p.0 p.1 in let a = o.all in let e = p.1 in omega (arith, e, l, a)
      ]

  -- the referent of a cell that is there
  itself : (c : ℕ) (q : Option Referent) → cell_of_number g c ≡ q → 0 < c → c ≤ length g.cells → Some (renumbered_cell m g c) ≡ option_map (carried_cell m) (cell_of_number g c)
  itself c (Some x) e lo hi =
      ap Some (ap₂ (λ (u : Option Referent) (v : Option Referent). record { of = referent_type u; val = renumbered_tree m (cell_tree v) }) e e) ∙ sym (ap (option_map (carried_cell m)) e)
  itself zero None e lo hi = absurd (omega (arith, lo))
  itself (suc i) None e lo hi =
      let there : slice_get g.cells i ≡ Some (get_or g.cells i (record { of = 0; val = node tree.Unread none })) = slice_get-get_or g.cells i _ hi in
      cc

  no_cell : (c : ℕ) → m c ≡ 0 → cell_of_number g c ≡ None
  no_cell zero e = refl
  no_cell (suc i) e = go (leb (suc i) (length g.cells)) refl
    where
      go : (b : Bool) → leb (suc i) (length g.cells) ≡ b → slice_get g.cells i ≡ None
      go true f =
          let l = o.numbered (suc i) (omega arith) (leb-true (suc i) (length g.cells) f) in
          absurd (omega (arith, l, e))
      go false f = none_past g.cells i (let l = leb-false (suc i) (length g.cells) f in omega (arith, l))

  moved : (c : ℕ) → cell_of_number h (m c) ≡ option_map (carried_cell m) (cell_of_number g c)
  moved c =
      elim (zero_or (m c)) as (λ _. cell_of_number h (m c) ≡ option_map (carried_cell m) (cell_of_number g c)) [
        | inl e ↦ ap (cell_of_number h) e ∙ sym (ap (option_map (carried_cell m)) (no_cell c e))
        | inr p ↦
            let (l, s) = o.cell c p.0 p.1 in
            let t = there_at (length g.cells) cells p.0 l o.there in
            let lo : 0 < c = subst (λ u. 0 < u) s t.0 in
            let hi : c ≤ length g.cells = subst (λ u. u ≤ length g.cells) s t.1 in
            ap (cell_of_number h) p.1 ∙ get_map (renumbered_cell m g) cells p.0
            ∙ ap (option_map (renumbered_cell m g)) (slice_get-get_or cells p.0 0 l)
            ∙ ap (λ u. Some (renumbered_cell m g u)) s ∙ itself c (cell_of_number g c) refl lo hi
      ]

  one : (c d : ℕ) → 0 < c → c ≤ length g.cells → 0 < d → d ≤ length g.cells → m c ≡ m d → c ≡ d
  one c d lo hi lo' hi' e =
      elim (zero_or (m c)) as (λ _. c ≡ d) [
        | inl z ↦ let l = o.numbered c lo hi in absurd (omega (arith, l, z))
        | inr p ↦ sym (o.cell c p.0 p.1).1 ∙ (o.cell d p.0 (sym e ∙ p.1)).1
      ]

  back : (d : ℕ) → 0 < d → d ≤ length g.cells → (c : ℕ) × (0 < c) × (c ≤ length g.cells) × (m c ≡ d)
  back zero lo hi = absurd (omega (arith, lo))
  back (suc k) lo hi =
      let a = o.all in
      let l : k < length cells = omega (arith, hi, a) in
      let t = there_at (length g.cells) cells k l o.there in
      (get_or cells k 0, t.0, t.1, o.number k l)

  pub renumbers : Renumbers m g h
  renumbers = record {
    roots = refl;
    many = length_map (renumbered_cell m g) cells ∙ o.all;
    cell = moved;
    small = small;
    forth = o.numbered;
    back = back;
    one = one;
  }

  cell_there : (xs : List Referent) (i : ℕ) (x : Referent) → slice_get xs i ≡ Some x → AllByRecursion (λ x. AreThere (length g.cells) (named_by x.val)) xs → AreThere (length g.cells) (named_by x.val)
  cell_there [] i x e a = cc
  cell_there (y ∷ ys) zero x e a = subst (λ (z : Referent). AreThere (length g.cells) (named_by z.val)) (same_Some _ _ e) a.0
  cell_there (y ∷ ys) (suc i) x e a = cell_there ys i x e a.1

  get_below : {A : Type 0} (xs : List A) (i : ℕ) (x : A) → slice_get xs i ≡ Some x → suc i ≤ length xs
  get_below [] i x e = cc
  get_below (y ∷ xs) zero x e = omega arith
  get_below (y ∷ xs) (suc i) x e = let l = get_below xs i x e in omega (arith, l)

  pub is_same : HasNames g → Same g h
  is_same names = record {
    image = image_of (length g.cells) m;
    as_many = sym (length_map (renumbered_cell m g) cells ∙ o.all);
    within = λ c lo hi. subst (λ u. (0 < u) × (u ≤ length g.cells)) (sym (image_inside (length g.cells) m c lo hi)) (o.numbered c lo hi, small c);
    one_to_one = λ c d lo hi lo' hi' e. one c d lo hi lo' hi' (sym (image_inside (length g.cells) m c lo hi) ∙ e ∙ image_inside (length g.cells) m d lo' hi');
    elsewhere = λ c out. image_outside (length g.cells) m c out;
    roots = roots_image (length g.cells) m g.roots names.roots;
    cells = λ c d x y e f e'. (
        let hi : suc c ≤ length g.cells = get_below g.cells c x e in
        let number : m (suc c) ≡ suc d = sym (image_inside (length g.cells) m (suc c) (omega arith) hi) ∙ f in
        let s : y ≡ carried_cell m x = same_Some _ _ (sym e' ∙ sym (ap (cell_of_number h) number) ∙ moved (suc c) ∙ ap (option_map (carried_cell m)) e) in (
          sym (ap (λ (u : Referent). u.of) s),
          tree_image (length g.cells) m x.val (cell_there g.cells c x e names.cells) ∙ sym (ap (λ (u : Referent). more u.val none) s),
        ));
  }

-- the graph that is renumbered is the same, each cell with its canonical number
pub same_by_order : (g : Graph) (numbers cells : List ℕ) (o : IsOrder g numbers cells) → HasNames g
    → (s : Same g (renumbered_graph numbers cells g)) × ((c : ℕ) → 0 < c → c ≤ length g.cells → s.image c ≡ canonical_number o.names c)
unfolding is_same
same_by_order g numbers cells o names =
    (is_same g numbers cells o names, λ c lo hi. image_inside (length g.cells) (λ d. get_or numbers d 0) c lo hi ∙ o.canonical c)

-- ## Fits

-- what the search asks of a fit
pub few_roots : (f : Fitting) → IsFit f → length f.graph.roots < 2 ^ 32
few_roots f k =
    let w : Setting = setting_beside f.interface k.operation f.side f.given in
    let few = few_named_roots f.interface.types f.interface.operations f.op f.side k.operation f.interface.legal.few_params k.is_there in
    let mapped : length (named_roots f.interface.types f.side k.operation) ≡ length (root_list w) = length-map (roots_of f.interface.types f.side k.operation) (named_root k.operation) in
    let all = k.conforms.all_roots in
    omega (arith, few, mapped, all)

pub fit_names : (f : Fitting) → IsFit f → HasNames f.graph
fit_names f k = has_names (setting_beside f.interface k.operation f.side f.given) f.graph k.conforms

pub fit_all_named : (f : Fitting) → IsFit f → IsAllNamed f.graph
fit_all_named f k = all_named (setting_beside f.interface k.operation f.side f.given) f.graph k.conforms

module _ (f : Fitting) (k : IsFit f) (numbers cells : List ℕ) (o : IsOrder f.graph numbers cells) where
  pub renumbered_fits : IsFit (renumbered_fitting numbers cells f)
  renumbered_fits = record {
    operation = k.operation;
    is_there = k.is_there;
    conforms =
        conforms_as_before (setting_beside f.interface k.operation f.side f.given) f.graph (renumbered_graph numbers cells f.graph) (λ c. get_or numbers c 0)
        (renumbers f.graph numbers cells o) k.conforms;
    request = k.request;
  }

  pub is_canonical : IsCanonical f (renumbered_fitting numbers cells f)
  unfolding is_same
  is_canonical = record {
    op = refl;
    side = refl;
    interface = refl;
    given = refl;
    names = o.names;
    named = o.named;
    same = is_same f.graph numbers cells o (fit_names f k);
    numbered = λ c lo hi. image_inside (length f.graph.cells) (λ c. get_or numbers c 0) c lo hi ∙ o.canonical c;
  }

-- the order that the search gives, of the fit's graph
pub order_as : (f : Fitting) (g : Graph) (numbers cells numbers' cells' : List ℕ) → g ≡ f.graph → numbers' ≡ numbers → cells' ≡ cells → IsOrder g numbers cells → IsOrder f.graph numbers' cells'
order_as f g numbers cells numbers' cells' e a b o =
    subst (λ (q : Graph). IsOrder q numbers' cells') e (subst (λ (u : List ℕ). IsOrder g u cells') (sym a) (subst (λ (v : List ℕ). IsOrder g numbers v) (sym b) o))

-- what is answered
pub answered : {E : Type 0} (f : Fitting) (k : IsFit f) (numbers cells : List ℕ) → IsOrder f.graph numbers cells → (r : Result Fitting E)
    → IfOk r (λ x. x ≡ renumbered_fitting numbers cells f) → IfOk r (λ x. IsCanonical f x)
answered f k numbers cells o (Ok x) e = subst (IsCanonical f) (sym e) (is_canonical f k numbers cells o)
answered f k numbers cells o (Err x) e = tt
