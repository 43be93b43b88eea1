-- Which graphs are the same: each is the same as itself, and one without cells is the same as no other.
use Rattle.std.proofs.Common.{◌≡◌, ℕ, ◌<◌, zero, suc, List, [], ◌∷◌, length, Some, None, refl, ap, ap₂, sym, ◌∙◌, inl, inr, ◌⊎◌, arith}
use Rattle.std.specs.List.{slice_get}
use Rattle.std.proofs.lemmas.Option.{same_Some}
use Rattle.nd_value.specs.declared.value.Graph.{Graph}
use Rattle.nd_value.specs.Tree as tree
use Rattle.nd_value.specs.Tree.{Tree, Trees, node, none, more, Label, Referent, trees, items}
use Rattle.nd_value.specs.Canon.{Same, renumbered, renumbered_label}

module _ (m : ℕ → ℕ) (still : (c : ℕ) → m c ≡ c) where
  label_still : (l : Label) → renumbered_label m l ≡ l
  label_still (tree.Ptr None) = refl
  label_still (tree.Ptr (Some c)) = ap (λ u. tree.Ptr (Some u)) (still c)
  label_still (tree.Num z) = refl
  label_still _ = refl

  trees_still : (ts : Trees) → renumbered m ts ≡ ts
  trees_still none = refl
  trees_still (more (node l ks) ts) = ap₂ more (ap₂ node (label_still l) (trees_still ks)) (trees_still ts)

pub back : (ts : List Tree) → items (trees ts) ≡ ts
back [] = refl
back (t ∷ ts) = ap (λ us. t ∷ us) (back ts)

no_cells : (xs : List Referent) → 0 ≡ length xs → [] ≡ xs
no_cells [] e = refl
no_cells (x ∷ xs) e = cc

pub same_itself : (g : Graph) → Same g g
same_itself g = record {
  image = λ c. c;
  as_many = refl;
  within = λ c low high. (low, high);
  one_to_one = λ c d low high low' high' e. e;
  elsewhere = λ c h. refl;
  roots = trees_still (λ c. c) (λ c. refl) (trees g.roots);
  cells = λ c d x y there e there'. (
      let at : c ≡ d = omega (arith, e) in
      let same : x ≡ y = same_Some _ _ (sym there ∙ ap (slice_get g.cells) at ∙ there') in
      (ap (λ u. u.of) same, trees_still (λ k. k) (λ k. refl) (more x.val none) ∙ ap (λ u. more u.val none) same));
}

pub same_without_cells : (g h : Graph) → g.cells ≡ [] → Same g h → g ≡ h
same_without_cells g h none_there s =
    let few : length g.cells ≡ 0 = ap length none_there in
    let still : (c : ℕ) → s.image c ≡ c = λ c. s.elsewhere c (outside c few) in
    let roots : g.roots ≡ h.roots = sym (back g.roots) ∙ ap items (sym (trees_still s.image still (trees g.roots)) ∙ s.roots) ∙ back h.roots in
    let cells : g.cells ≡ h.cells = none_there ∙ no_cells h.cells (sym few ∙ s.as_many) in
    ap₂ (λ (r : List Tree) (c : List Referent). record { roots = r; cells = c }) roots cells
  where
    outside : (c : ℕ) → length g.cells ≡ 0 → (c ≡ 0) ⊎ (length g.cells < c)
    outside zero e = inl refl
    outside (suc c) e = inr (omega (arith, e))
