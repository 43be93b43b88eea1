-- Two walks in step.
-- `m` and `n` are the numbers of the cells of the two graphs, `a` and `b` the nodes that are left, `f` and `e` the first of them, `t` and `u` are trees, `Q` is what is decided of all.
use Rattle.std.proofs.Common.{◌≡◌, ℕ, ◌+◌, ◌<◌, suc, Bool, true, false, eqb, List, ◌∷◌, ◌++◌, refl, ap, ap₂, sym, ◌∙◌, subst, arith}
use Rattle.std.specs.Bool.{Decides}
use Rattle.std.specs.List.{slice_get}
use Rattle.std.proofs.lemmas.Bool.{eqb-true, eqb-false}
use Rattle.std.proofs.lemmas.List.{map-append}
use Rattle.nd_value.specs.declared.value.Graph.{Graph}
use Rattle.nd_value.specs.Tree.{Tree, Trees, Flat, node, none, more, flat, unflat, unflat-of, Unread}
use Rattle.nd_value.specs.Setting.{cell_at}
use Rattle.nd_value.specs.Canon.{renumbered, renumbered_label}
use Rattle.nd_flat.specs.Building.{referent_type}
use Rattle.nd_flat.specs.Renumbered.{renumbered_tree}
use Rattle.nd_graph.specs.Alike.{renumbered_flat, renumbered_flats, IsSameCell}
use Rattle.nd_graph.proofs.Carried.{count_same}
use Rattle.nd_graph.proofs.Renumbered.{tree_renumbered}

-- two lists of nodes say the same
abbrev pub SameNodes : (m n : ℕ → ℕ) → List Flat → List Flat → Type 0
SameNodes m n a b = renumbered_flats m a ≡ renumbered_flats n b

-- ## Trees

flat_renumbered : (m : ℕ → ℕ) (ts : Trees) → flat (renumbered m ts) ≡ renumbered_flats m (flat ts)
flat_renumbered m none = refl
flat_renumbered m (more (node l ks) ts) =
    ap₂ (λ k fs. (renumbered_label m l, k) ∷ fs) (count_same m ks)
    (ap₂ (λ x y. x ++ y) (flat_renumbered m ks) (flat_renumbered m ts) ∙ sym (map-append (renumbered_flat m) (flat ks) (flat ts)))

abbrev head_of : Trees → Tree
head_of none = node Unread none
head_of (more t ts) = t

-- the nodes of two trees say the same exactly where the trees do
pub tree_decided : (m n : ℕ → ℕ) (r : Bool) (x y : Trees) (t u : Tree) → x ≡ more t none → y ≡ more u none → Decides r (SameNodes m n (flat x) (flat y))
    → Decides r (renumbered_tree m t ≡ renumbered_tree n u)
tree_decided m n r x y t u ex ey d = (
  (λ z.
      let e : flat (renumbered m x) ≡ flat (renumbered n y) = flat_renumbered m x ∙ d.0 z ∙ sym (flat_renumbered n y) in
      let v : renumbered m x ≡ renumbered n y = sym (unflat-of (renumbered m x)) ∙ ap unflat e ∙ unflat-of (renumbered n y) in
      ap head_of (sym (ap (renumbered m) ex ∙ tree_renumbered m t) ∙ v ∙ ap (renumbered n) ey ∙ tree_renumbered n u)),
  (λ e.
      let v : renumbered m x ≡ renumbered n y =
      ap (renumbered m) ex ∙ tree_renumbered m t ∙ ap (λ w. more w none) e ∙ sym (ap (renumbered n) ey ∙ tree_renumbered n u) in
      d.1 (sym (flat_renumbered m x) ∙ ap flat v ∙ flat_renumbered n y)),
)

-- ## Lists that are compared place by place

-- one place more
pub place_on : (P : ℕ → Type 0) (at : ℕ) → ((i : ℕ) → i < at → P i) → P at → (i : ℕ) → i < at + 1 → P i
place_on P at h p i l = go (eqb i at) refl
  where
    go : (b : Bool) → eqb i at ≡ b → P i
    go true e = subst P (sym (eqb-true i at e)) p
    go false e =
        let apart : i ≡ at → ⊥ = eqb-false i at e in
        h i (omega (arith, l, apart))

-- a place where they differ
pub place_differs : (P : ℕ → Type 0) (n at : ℕ) (r : Bool) → at < n → r ≡ false → Decides r (P at) → Decides false ((i : ℕ) → i < n → P i)
place_differs P n at r l unequal d = ((λ z. cc), λ h. sym unequal ∙ d.1 (h at l))

-- ## Cells

pub cell_decided : (m n : ℕ → ℕ) (g h : Graph) (c d i j : ℕ) (p q : ℕ) (x y : Trees) (r : Bool) → suc i ≡ c → suc j ≡ d → p ≡ q → p ≡ referent_type (slice_get g.cells i)
    → q ≡ referent_type (slice_get h.cells j) → x ≡ more (cell_at g (suc i)) none → y ≡ more (cell_at h (suc j)) none → Decides r (SameNodes m n (flat x) (flat y))
    → Decides r (IsSameCell m n g h c d)
cell_decided m n g h c d i j p q x y r ec ed e ep eq ex ey dd =
    subst (λ u. Decides r (IsSameCell m n g h u d)) ec
    (subst (λ u. Decides r (IsSameCell m n g h (suc i) u)) ed (
      (λ z. record { of = sym ep ∙ e ∙ eq; val = v.0 z }),
      (λ s. v.1 s.val),
    ))
  where
    v : Decides r (renumbered_tree m (cell_at g (suc i)) ≡ renumbered_tree n (cell_at h (suc j)))
    v = tree_decided m n r x y (cell_at g (suc i)) (cell_at h (suc j)) ex ey dd
