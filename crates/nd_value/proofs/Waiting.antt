-- The cells that do not stand yet.
use Rattle.std.proofs.Common.{◌≡◌, ℕ, ◌+◌, ◌<◌, zero, suc, Bool, true, false, List, [], ◌∷◌, ◌++◌, length, Option, Some, None, refl, ap, ap₂, sym, ◌∙◌, inl, inr, ◌⊎◌, arith, subst}
use Rattle.std.specs.Prelude.{eqb, ◌||◌}
use Rattle.std.specs.List.{slice_get}
use Rattle.std.proofs.lemmas.Bool.{eqb-true, eq-eqb, eqb-false}
use Rattle.std.proofs.lemmas.Option.{same_Some}
use Rattle.nd_types.specs.declared.types.Class.{Class}
use Rattle.nd_value.specs.Tree.{Referent}
use Rattle.nd_value.specs.Deferral.{IsPlaced, Placed_cells}

abbrev pub stands : Placed_cells → ℕ → Bool
stands [] c = false
stands (d ∷ ds) c = eqb c d.1 || stands ds c

pub stands-true : (done : Placed_cells) (c : ℕ) → stands done c ≡ true → IsPlaced done c
stands-true [] c e = cc
stands-true (d ∷ ds) c e = go (eqb c d.1) refl e (stands-true ds c)
  where
    go : (b : Bool) → eqb c d.1 ≡ b → (b || stands ds c) ≡ true → (stands ds c ≡ true → IsPlaced ds c) → IsPlaced (d ∷ ds) c
    go true f h r = inl (eqb-true c d.1 f)
    go false f h r = inr (r h)

pub stands-false : (done : Placed_cells) (c : ℕ) → stands done c ≡ false → ¬ IsPlaced done c
stands-false [] c e h = h
stands-false (d ∷ ds) c e h = go (eqb c d.1) refl e (stands-false ds c) h
  where
    go : (b : Bool) → eqb c d.1 ≡ b → (b || stands ds c) ≡ false → (stands ds c ≡ false → ¬ IsPlaced ds c) → IsPlaced (d ∷ ds) c → ⊥
    go true f k r x = cc
    go false f k r (inl x) = eqb-false c d.1 f x
    go false f k r (inr x) = r k x

pub not_equal : (a b : ℕ) → (a ≡ b → ⊥) → eqb a b ≡ false
not_equal a b n = go (eqb a b) refl
  where
    go : (x : Bool) → eqb a b ≡ x → eqb a b ≡ false
    go true e = absurd (n (eqb-true a b e))
    go false e = e

abbrev kept : Bool → ℕ × Referent → List (ℕ × Referent) → List (ℕ × Referent)
kept true r rs = rs
kept false r rs = r ∷ rs

-- the cells from number n on that do not stand, with their numbers
abbrev pub waiting : Placed_cells → ℕ → List Referent → List (ℕ × Referent)
waiting done n [] = []
waiting done n (x ∷ xs) = kept (stands done n) (n, x) (waiting done (n + 1) xs)

module _ (done : Placed_cells) (k : Class) (c : ℕ) where
  abbrev more_done : Placed_cells
  more_done = (k, c) ∷ done

  other : (n : ℕ) → (n ≡ c → ⊥) → stands more_done n ≡ stands done n
  other n h = ap (λ b. b || stands done n) (not_equal n c h)

  later : (n : ℕ) (xs : List Referent) → c < n → waiting more_done n xs ≡ waiting done n xs
  later n [] h = refl
  later n (x ∷ xs) h = ap₂ (λ b r. kept b (n, x) r) (other n (λ e. omega arith)) (later (n + 1) xs (omega arith))

  -- what waits is parted at a cell that comes to stand
  abbrev pub Parted : ℕ → List Referent → Referent → Type 0
  Parted n xs x =
      (front : List (ℕ × Referent)) × (back : List (ℕ × Referent)) × (waiting done n xs ≡ front ++ (c, x) ∷ back) × (waiting more_done n xs ≡ front ++ back)

  pub parted : (n : ℕ) (xs : List Referent) (i : ℕ) (x : Referent) → slice_get xs i ≡ Some x → c ≡ n + i → stands done c ≡ false → Parted n xs x
  parted n [] i x e f h = cc
  parted n (y ∷ ys) zero x e f h =
      let s : y ≡ x = same_Some _ _ e in
      let fc : n ≡ c = omega arith in
      let b : stands done n ≡ false = ap (stands done) fc ∙ h in
      let b' : stands more_done n ≡ true = ap (λ u. u || stands done n) (eq-eqb n c fc) in (
        [],
        waiting done (n + 1) ys,
        ap (λ u. kept u (n, y) (waiting done (n + 1) ys)) b ∙ ap₂ (λ u v. (u, v) ∷ waiting done (n + 1) ys) fc s,
        ap (λ u. kept u (n, y) (waiting more_done (n + 1) ys)) b' ∙ later (n + 1) ys (omega arith),
      )
  parted n (y ∷ ys) (suc i) x e f h = go (stands done n) refl (parted (n + 1) ys i x e (omega arith) h)
    where
      go : (b : Bool) → stands done n ≡ b → Parted (n + 1) ys x → Parted n (y ∷ ys) x
      go true z r =
          let (front, back, p, q) = r in (
            front,
            back,
            ap (λ u. kept u (n, y) (waiting done (n + 1) ys)) z ∙ p,
            ap (λ u. kept u (n, y) (waiting more_done (n + 1) ys)) (other n (λ u. omega arith) ∙ z) ∙ q,
          )
      go false z r =
          let (front, back, p, q) = r in (
            (n, y) ∷ front,
            back,
            ap (λ u. kept u (n, y) (waiting done (n + 1) ys)) z ∙ ap (λ u. (n, y) ∷ u) p,
            ap (λ u. kept u (n, y) (waiting more_done (n + 1) ys)) (other n (λ u. omega arith) ∙ z) ∙ ap (λ u. (n, y) ∷ u) q,
          )
