-- The cells that nodes reach are those that pointers reach by their types: so the third pass finds what its definition says.
-- `w` is a setting, `g` a graph, `r` a root, `v` its value, `x` a cell, `b` and `c` are cells' numbers, `p` is a pointer.
use Rattle.std.proofs.Common.{◌≡◌, ◌⊎◌, inl, inr, ℕ, ◌+◌, ◌<◌, ◌≤◌, zero, suc, true, List, [], ◌∷◌, ◌++◌, length, Option, Some, None, refl, ap, sym, ◌∙◌, subst}
use Rattle.std.specs.List.{slice_get}
use Rattle.std.proofs.lemmas.Option.{same_Some}
use Rattle.nd_types.specs.Roots.{Root}
use Rattle.nd_value.specs.declared.value.Graph.{Graph}
use Rattle.nd_value.specs.declared.value.CellId.{CellId}
use Rattle.nd_value.specs.declared.item.Home.TheVariants as home
use Rattle.nd_value.specs.Tree.{Tree, Referent, none, more}
use Rattle.nd_value.specs.Setting.{Setting, root_list, cell_home, cell_tree, cell_of_number, Among}
use Rattle.nd_value.specs.Deferral.{Pending, home_pointers}
use Rattle.nd_value.specs.Conforms.{root_pointers, Reached, by_root, by_cell, IsFirstUnreached}
use Rattle.nd_value.specs.Canon.{target}
use Rattle.nd_value.specs.Names.{named_by}
use Rattle.nd_fit.specs.Reach.{Reach, root_names, cell_names, TellsReach, RootsFormed, CellsFormed}
use Rattle.nd_misfits.specs.Pointers.{are_formed}
use Rattle.nd_fit.proofs.Bridge.{cells_named, home_names}

-- Lists
among_split : {A : Type 0} (xs ys : List A) (x : A) → Among (xs ++ ys) x → Among xs x ⊎ Among ys x
among_split [] ys x a = inr a
among_split (y ∷ xs) ys x a =
    elim a as (λ v. Among (y ∷ xs) x ⊎ Among ys x) [
      | inl e ↦ inl (inl e)
      | inr b ↦ elim (among_split xs ys x b) as (λ v. Among (y ∷ xs) x ⊎ Among ys x) [ inl c ↦ inl (inr c) | inr d ↦ inr d ]
    ]

among_front : {A : Type 0} (xs ys : List A) (x : A) → Among xs x → Among (xs ++ ys) x
among_front [] ys x a = absurd a
among_front (y ∷ xs) ys x a = elim a as (λ v. Among (y ∷ (xs ++ ys)) x) [ inl e ↦ inl e | inr b ↦ inr (among_front xs ys x b) ]

among_behind : {A : Type 0} (xs ys : List A) (x : A) → Among ys x → Among (xs ++ ys) x
among_behind [] ys x a = a
among_behind (y ∷ xs) ys x a = inr (among_behind xs ys x a)

-- a pointer that names a cell, among pointers
names_it : (ps : List Pending) (p : Pending) (c : ℕ) → Among ps p → p.cell ≡ Some c → Among (cells_named ps) c
names_it [] p c a e = absurd a
names_it (q ∷ ps) p c a e =
    elim a as (λ v. Among (target q.cell ++ cells_named ps) c) [
      | inl s ↦ among_front (target q.cell) (cells_named ps) c (subst (λ o. Among (target o) c) (sym (ap (λ (x : Pending). x.cell) (sym s) ∙ e)) (inl refl))
      | inr b ↦ among_behind (target q.cell) (cells_named ps) c (names_it ps p c b e)
    ]

target_is : (o : Option ℕ) (c : ℕ) → Among (target o) c → o ≡ Some c
target_is None c a = absurd a
target_is (Some d) c a = elim a as (λ v. Some d ≡ Some c) [ inl e ↦ ap (λ n. Some n) (sym e) | inr b ↦ absurd b ]

named_from : (ps : List Pending) (c : ℕ) → Among (cells_named ps) c → (p : Pending) × (Among ps p) × (p.cell ≡ Some c)
named_from [] c a = absurd a
named_from (q ∷ ps) c a =
    elim (among_split (target q.cell) (cells_named ps) c a) as (λ v. (p : Pending) × (Among (q ∷ ps) p) × (p.cell ≡ Some c)) [
      | inl b ↦ (q, inl refl, target_is q.cell c b)
      | inr b ↦ let f : (p : Pending) × (Among ps p) × (p.cell ≡ Some c) = named_from ps c b in (f.0, inr f.1, f.2)
    ]

module _ (w : Setting) (g : Graph) (roots : RootsFormed w.table (root_list w) g.roots) (cells : CellsFormed w.table g.cells) where
  from_root : (i : ℕ) (rs : List Root) (vs : List Tree) (p : Pending) (c : ℕ) → RootsFormed w.table rs vs → Among (root_pointers w.table i rs vs) p → p.cell ≡ Some c
      → (v : Tree) × (Among vs v) × (Among (named_by v) c)
  from_root i [] vs p c f a e = absurd a
  from_root i (r ∷ rs) [] p c f a e = absurd a
  from_root i (r ∷ rs) (v ∷ vs) p c f a e =
      let ps : List Pending = home_pointers w.table (home.Root i) r.of v in
      elim (among_split ps (root_pointers w.table (i + 1) rs vs) p a) as (λ x. (u : Tree) × (Among (v ∷ vs) u) × (Among (named_by u) c)) [
        | inl b ↦ (v, inl refl, subst (λ cs. Among cs c) (home_names w.table (home.Root i) r.of v f.0) (names_it ps p c b e))
        | inr b ↦ let h : (u : Tree) × (Among vs u) × (Among (named_by u) c) = from_root (i + 1) rs vs p c f.1 b e in (h.0, inr h.1, h.2)
      ]

  to_root : (i : ℕ) (rs : List Root) (vs : List Tree) (v : Tree) (c : ℕ) → RootsFormed w.table rs vs → Among vs v → Among (named_by v) c
      → (p : Pending) × (Among (root_pointers w.table i rs vs) p) × (p.cell ≡ Some c)
  to_root i rs [] v c f a m = absurd a
  to_root i [] (u ∷ vs) v c f a m = absurd f
  to_root i (r ∷ rs) (u ∷ vs) v c f a m =
      let ps : List Pending = home_pointers w.table (home.Root i) r.of u in
      elim a as (λ x. (p : Pending) × (Among (ps ++ root_pointers w.table (i + 1) rs vs) p) × (p.cell ≡ Some c)) [
        | inl e ↦
            let here : Among (cells_named ps) c = subst (λ cs. Among cs c) (ap named_by e ∙ sym (home_names w.table (home.Root i) r.of u f.0)) m in
            let q : (p : Pending) × (Among ps p) × (p.cell ≡ Some c) = named_from ps c here in
            (q.0, among_front ps (root_pointers w.table (i + 1) rs vs) q.0 q.1, q.2)
        | inr b ↦
            let q : (p : Pending) × (Among (root_pointers w.table (i + 1) rs vs) p) × (p.cell ≡ Some c) = to_root (i + 1) rs vs v c f.1 b m in
            (q.0, among_behind ps (root_pointers w.table (i + 1) rs vs) q.0 q.1, q.2)
      ]

  formed_at : (xs : List Referent) (i : ℕ) (x : Referent) → slice_get xs i ≡ Some x → CellsFormed w.table xs → are_formed w.table (x.of ∷ []) (more x.val none) ≡ true
  formed_at [] i x e h = cc
  formed_at (y ∷ ys) zero x e h = subst (λ (z : Referent). are_formed w.table (z.of ∷ []) (more z.val none) ≡ true) (same_Some y x e) h.0
  formed_at (y ∷ ys) (suc i) x e h = formed_at ys i x e h.1

  cell_formed : (b : ℕ) (x : Referent) → cell_of_number g b ≡ Some x → are_formed w.table (x.of ∷ []) (more x.val none) ≡ true
  cell_formed zero x e = cc
  cell_formed (suc i) x e = formed_at g.cells i x e cells

  pub to_reach : {c : ℕ} → Reached w g c → Reach g c
  to_reach (by_root {c} p a e) =
      let h : (v : Tree) × (Among g.roots v) × (Among (named_by v) c) = from_root 0 (root_list w) g.roots p c roots a e in
      root_names h.0 h.1 h.2
  to_reach (by_cell {b} {c} x p r there a e) =
      let m : Among (named_by x.val) c =
      subst (λ cs. Among cs c) (home_names w.table (cell_home b) x.of x.val (cell_formed b x there)) (names_it (home_pointers w.table (cell_home b) x.of x.val) p c a e) in
      cell_names b (to_reach r) (subst (λ t. Among (named_by t) c) (sym (ap cell_tree there)) m)

  by_number : (b c : ℕ) (o : Option Referent) → cell_of_number g b ≡ o → Reached w g b → Among (named_by (cell_tree o)) c → Reached w g c
  by_number b c None e r m = absurd m
  by_number b c (Some x) e r m =
      let ps : List Pending = home_pointers w.table (cell_home b) x.of x.val in
      let here : Among (cells_named ps) c = subst (λ cs. Among cs c) (sym (home_names w.table (cell_home b) x.of x.val (cell_formed b x e))) m in
      let q : (p : Pending) × (Among ps p) × (p.cell ≡ Some c) = named_from ps c here in
      by_cell x q.0 r e q.1 q.2

  pub to_reached : {c : ℕ} → Reach g c → Reached w g c
  to_reached (root_names {c} t a m) =
      let q : (p : Pending) × (Among (root_pointers w.table 0 (root_list w) g.roots) p) × (p.cell ≡ Some c) = to_root 0 (root_list w) g.roots t c roots a m in
      by_root q.0 q.1 q.2
  to_reached (cell_names {c} b r m) = by_number b c (cell_of_number g b) refl (to_reached r) m

  -- what the pass answers is what its definition says
  pub all_reached : TellsReach g None → (c : ℕ) → 0 < c → c ≤ length g.cells → Reached w g c
  all_reached h c lo hi = to_reached (h c lo hi)

  pub first_unreached : (c : CellId) → TellsReach g (Some c) → IsFirstUnreached w g c.0
  first_unreached c h = record {
    is_cell = (h.0, h.1);
    unreached = λ r. h.2 (to_reach r);
    earlier = λ d lo lt. to_reached (h.3 d lo lt);
  }
