-- Graphs that are the same up to the numbers of their cells have one canonical form.
-- `w` is a setting, `g` a graph that conforms, `h` one that is the same, `c` and `d` are their canonical forms, `k` is the number of a cell, `j` the index of one.
use Rattle.std.proofs.Common.{◌≡◌, ◌⊎◌, inl, inr, ℕ, zero, suc, ◌<◌, ◌≤◌, List, [], ◌∷◌, length, Some, refl, ap, ap₂, sym, ◌∙◌, arith}
use Rattle.std.specs.List.{slice_get}
use Rattle.std.proofs.lemmas.Bool.{cases_lt}
use Rattle.nd_value.specs.declared.value.Graph.{Graph}
use Rattle.nd_value.specs.Tree.{Tree, none, more, Referent, trees}
use Rattle.nd_value.specs.Setting.{Setting}
use Rattle.nd_value.specs.Canon.{IsCanon, Same, renumbered}
use Rattle.nd_value.specs.Conforms.{Conforms}
use Rattle.nd_grammar.specs.LegalSide.{IsLegalSide}
use Rattle.nd_graph.proofs.Images.{first_tree, rest_trees, came_from, goes_to, carried_on}
use Rattle.nd_graph.proofs.CarriedNumbers.{numbers_alike}

same_trees : (xs ys : List Tree) → trees xs ≡ trees ys → xs ≡ ys
same_trees [] [] e = refl
same_trees [] (y ∷ ys) e = cc
same_trees (x ∷ xs) [] e = cc
same_trees (x ∷ xs) (y ∷ ys) e = ap₂ (λ z (zs : List Tree). z ∷ zs) (ap first_tree e) (same_trees xs ys (ap rest_trees e))

-- cells are the same, one by one
same_cells : (xs ys : List Referent) → length xs ≡ length ys → ((j : ℕ) (x y : Referent) → slice_get xs j ≡ Some x → slice_get ys j ≡ Some y → x ≡ y) → xs ≡ ys
same_cells [] [] l f = refl
same_cells [] (y ∷ ys) l f = cc
same_cells (x ∷ xs) [] l f = cc
same_cells (x ∷ xs) (y ∷ ys) l f =
    let l' : length xs ≡ length ys = cc in
    ap₂ (λ z (zs : List Referent). z ∷ zs) (f zero x y refl refl) (same_cells xs ys l' (λ j a b p q. f (suc j) a b p q))

module _ (w : Setting) (side : IsLegalSide w) (g h c d : Graph) (conforms : Conforms w g) (s : Same g h) (o : IsCanon w g c) (u : IsCanon w h d) where
  -- the number that a cell has in the one is that in the other
  images : (k : ℕ) → u.same.image (s.image k) ≡ o.same.image k
  images k = by (cases_lt 0 k) (cases_lt (length g.cells) k) where
    outside : (k ≡ 0) ⊎ (length g.cells < k) → (k ≡ 0) ⊎ (length h.cells < k) → u.same.image (s.image k) ≡ o.same.image k
    outside x y = ap u.same.image (s.elsewhere k x) ∙ u.same.elsewhere k y ∙ sym (o.same.elsewhere k x)

    inside : 0 < k → k ≤ length g.cells → u.same.image (s.image k) ≡ o.same.image k
    inside some few =
        let i = s.within k some few in
        u.numbered (s.image k) i.0 (omega (arith, i.1, s.as_many))
        ∙ numbers_alike w side g h conforms s o.steps u.steps o.deferral u.deferral k some few
        ∙ sym (o.numbered k some few)

    by : (0 < k) ⊎ (k ≤ 0) → (length g.cells < k) ⊎ (k ≤ length g.cells) → u.same.image (s.image k) ≡ o.same.image k
    by (inl some) (inr few) = inside some few
    by (inl some) (inl many) = outside (inr many) (inr (omega (arith, many, s.as_many)))
    by (inr low) x = let z : k ≡ 0 = omega (arith, low) in outside (inl z) (inl z)

  one_cell : (j : ℕ) (y z : Referent) → slice_get c.cells j ≡ Some y → slice_get d.cells j ≡ Some z → y ≡ z
  one_cell j y z ey ez =
      let a = came_from g c o.same j y ey in
      let b = goes_to g h s a.index a.cell a.there in
      let e = u.same.cells b.index j b.cell z b.there (ap u.same.image (sym b.image) ∙ images (suc a.index) ∙ a.image) ez in
      let val : more y.val none ≡ more z.val none =
      sym a.val ∙ sym (carried_on u.same.image s.image o.same.image images (more a.cell.val none)) ∙ ap (renumbered u.same.image) b.val ∙ e.1 in
      ap₂ (λ t v. record { of = t; val = v }) (sym a.of ∙ b.of ∙ e.0) (ap first_tree val)

  pub one_canonical : c ≡ d
  one_canonical =
      let roots : c.roots ≡ d.roots =
      same_trees c.roots d.roots
      (sym o.same.roots ∙ sym (carried_on u.same.image s.image o.same.image images (trees g.roots)) ∙ ap (renumbered u.same.image) s.roots ∙ u.same.roots) in
      let cells : c.cells ≡ d.cells = same_cells c.cells d.cells (sym o.same.as_many ∙ s.as_many ∙ u.same.as_many) one_cell in
      ap₂ (λ (xs : List Tree) (ys : List Referent). record { roots = xs; cells = ys }) roots cells
