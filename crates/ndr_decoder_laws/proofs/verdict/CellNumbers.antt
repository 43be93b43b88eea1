-- Cells that are named in the order of their numbers: each for the first time as the next one.
-- `n` and `m` are how many cells have been named, before and after, `c` and `d` are cells, `ds` those that are named, `seen` those that were counted.
use Rattle.std.proofs.Common.{◌≡◌, ◌⊎◌, inl, inr, ℕ, ◌+◌, ◌<◌, ◌≤◌, suc, Bool, true, false, List, [], ◌∷◌, ◌++◌, refl, ap, sym, ◌∙◌, arith, subst}
use Rattle.std.specs.Prelude.{cond, eqb}
use Rattle.std.proofs.lemmas.Bool.{eqb-true, eqb-false}
use Rattle.nd_value.specs.Canon.{has, number_from, canonical_number}

-- Each cell is one of the first n, or the next one; at the end m are named.
abbrev pub Counts : ℕ → List ℕ → ℕ → Type 0
Counts n [] m = n ≡ m
Counts n (d ∷ ds) m = ((0 < d) × (d ≤ n) × Counts n ds m) ⊎ ((d ≡ suc n) × Counts (suc n) ds m)

pub counts_both : (n k m : ℕ) (xs ys : List ℕ) → Counts n xs k → Counts k ys m → Counts n (xs ++ ys) m
counts_both n k m [] ys a b = subst (λ u. Counts u ys m) (sym a) b
counts_both n k m (x ∷ xs) ys (inl a) b = inl (a.0, a.1, counts_both n k m xs ys a.2 b)
counts_both n k m (x ∷ xs) ys (inr a) b = inr (a.0, counts_both (suc n) k m xs ys a.1 b)

abbrev turn : Bool → Bool → ℕ → ℕ → ℕ → ℕ
turn b e n p q = elim b [ true ↦ p | false ↦ elim e [ true ↦ n | false ↦ q ] ]

-- the cells that were counted are the first n
abbrev Lowest : ℕ → List ℕ → Type 0
Lowest n seen = ((d : ℕ) → has seen d ≡ true → d ≤ n) × ((d : ℕ) → 0 < d → d ≤ n → has seen d ≡ true)

has_more : (seen : List ℕ) (x d : ℕ) (b : Bool) → eqb d x ≡ b → has (x ∷ seen) d ≡ elim b [ true ↦ true | false ↦ has seen d ]
has_more seen x d true e = ap (λ t. cond t true (has seen d)) e
has_more seen x d false e = ap (λ t. cond t true (has seen d)) e

lowest_more : (n : ℕ) (seen : List ℕ) (x : ℕ) → x ≡ suc n → Lowest n seen → Lowest (suc n) (x ∷ seen)
lowest_more n seen x e (low, all) = ((λ d h. below d h (eqb d x) refl), (λ d lo hi. there d lo hi (eqb d x) refl))
  where
    below : (d : ℕ) → has (x ∷ seen) d ≡ true → (b : Bool) → eqb d x ≡ b → d ≤ suc n
    below d h true f = let g = eqb-true d x f in omega (arith, g)
    below d h false f = let g = low d (sym (has_more seen x d false f) ∙ h) in omega (arith, g)

    there : (d : ℕ) → 0 < d → d ≤ suc n → (b : Bool) → eqb d x ≡ b → has (x ∷ seen) d ≡ true
    there d lo hi true f = has_more seen x d true f
    there d lo hi false f = let g = eqb-false d x f in has_more seen x d false f ∙ all d lo (not_last (eqb d (suc n)) refl)
      where
        not_last : (b : Bool) → eqb d (suc n) ≡ b → d ≤ n
        not_last true k = absurd (eqb-false d x f (eqb-true d (suc n) k ∙ sym e))
        not_last false k = let g = eqb-false d (suc n) k in omega (arith, g)

-- each cell that is named gets its own number
numbered_so : (ds : List ℕ) (n m k : ℕ) (seen : List ℕ) → k ≡ n + 1 → Counts n ds m → Lowest n seen → (c : ℕ) → n < c → c ≤ m → number_from k seen ds c ≡ c
numbered_so [] n m k seen e a low c lo hi = absurd (omega (arith, a))
numbered_so (d ∷ ds) n m k seen e (inl a) low c lo hi =
    ap (λ t. turn t (eqb c d) k (number_from k seen ds c) (number_from (k + 1) (d ∷ seen) ds c)) (low.1 d a.0 a.1)
    ∙ numbered_so ds n m k seen e a.2 low c lo hi
numbered_so (d ∷ ds) n m k seen e (inr a) low c lo hi =
    ap (λ t. turn t (eqb c d) k (number_from k seen ds c) (number_from (k + 1) (d ∷ seen) ds c)) (unseen (has seen d) refl)
    ∙ by_cell (eqb c d) refl (λ h. numbered_so ds (suc n) m (k + 1) (d ∷ seen) (omega (arith, e)) a.1 (lowest_more n seen d a.0 low) c h hi)
  where
    unseen : (b : Bool) → has seen d ≡ b → has seen d ≡ false
    unseen false h = h
    unseen true h = let g = low.0 d h in absurd (omega (arith, g, a.0))

    by_cell : (b : Bool) → eqb c d ≡ b → (suc n < c → number_from (k + 1) (d ∷ seen) ds c ≡ c)
        → turn false (eqb c d) k (number_from k seen ds c) (number_from (k + 1) (d ∷ seen) ds c) ≡ c
    by_cell true f law =
        let g = eqb-true c d f in
        ap (λ t. turn false t k (number_from k seen ds c) (number_from (k + 1) (d ∷ seen) ds c)) f ∙ omega (arith, g, e, a.0)
    by_cell false f law =
        ap (λ t. turn false t k (number_from k seen ds c) (number_from (k + 1) (d ∷ seen) ds c)) f ∙ law (later (eqb c (suc n)) refl)
      where
        later : (b : Bool) → eqb c (suc n) ≡ b → suc n < c
        later true h = absurd (eqb-false c d f (eqb-true c (suc n) h ∙ sym a.0))
        later false h = let g = eqb-false c (suc n) h in omega (arith, g)

pub own_number : (ds : List ℕ) (m : ℕ) → Counts 0 ds m → (c : ℕ) → 0 < c → c ≤ m → canonical_number ds c ≡ c
own_number ds m a c lo hi = numbered_so ds 0 m 1 [] refl a ((λ d h. cc), (λ d l h. absurd (omega arith))) c lo hi
