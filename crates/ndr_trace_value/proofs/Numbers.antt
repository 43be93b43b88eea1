-- Where each cell's number is that which the order of the stream gives it, cells are named in the order of their numbers: each for the first time as the next one.
-- `n` is how many cells have been named, `m` how many there are, `c` and `d` are cells, `ds` those that are named, `seen` those that were counted.
use Rattle.std.proofs.Common.{◌≡◌, ◌⊎◌, inl, inr, ℕ, ◌+◌, ◌<◌, ◌≤◌, suc, Bool, true, false, List, [], ◌∷◌, refl, ap, sym, ◌∙◌, arith}
use Rattle.std.specs.Prelude.{cond, eqb}
use Rattle.std.specs.List.{AllByRecursion}
use Rattle.std.proofs.lemmas.Bool.{eqb-true, eqb-false, eq-eqb, cases_lt}
use Rattle.nd_value.specs.Canon.{has, number_from, canonical_number}
use Rattle.ndr_trace_value.specs.Counting.{Counts, IsIn}

abbrev turn : Bool → Bool → ℕ → ℕ → ℕ → ℕ
turn b e n p q = elim b [ true ↦ p | false ↦ elim e [ true ↦ n | false ↦ q ] ]

abbrev Lowest : ℕ → List ℕ → Type 0
Lowest n seen = ((d : ℕ) → has seen d ≡ true → d ≤ n) × ((d : ℕ) → 0 < d → d ≤ n → has seen d ≡ true)

has_more : (seen : List ℕ) (x d : ℕ) (b : Bool) → eqb d x ≡ b → has (x ∷ seen) d ≡ elim b [ true ↦ true | false ↦ has seen d ]
has_more seen x d true e = ap (λ t. cond t true (has seen d)) e
has_more seen x d false e = ap (λ t. cond t true (has seen d)) e

lowest_more : (n : ℕ) (seen : List ℕ) (x : ℕ) → x ≡ suc n → Lowest n seen → Lowest (suc n) (x ∷ seen)
lowest_more n seen x e (low, all) = ((λ d h. below d h (eqb d x) refl), (λ d lo hi. there d lo hi (eqb d x) refl))
  where
    below : (d : ℕ) → has (x ∷ seen) d ≡ true → (b : Bool) → eqb d x ≡ b → d ≤ suc n
    below d h true f = let g = eqb-true d x f in omega (arith, g)
    below d h false f = let g = low d (sym (has_more seen x d false f) ∙ h) in omega (arith, g)

    there : (d : ℕ) → 0 < d → d ≤ suc n → (b : Bool) → eqb d x ≡ b → has (x ∷ seen) d ≡ true
    there d lo hi true f = has_more seen x d true f
    there d lo hi false f = let g = eqb-false d x f in has_more seen x d false f ∙ all d lo (not_last (eqb d (suc n)) refl)
      where
        not_last : (b : Bool) → eqb d (suc n) ≡ b → d ≤ n
        not_last true k = absurd (eqb-false d x f (eqb-true d (suc n) k ∙ sym e))
        not_last false k = let g = eqb-false d (suc n) k in omega (arith, g)

-- the cells from n on have their own numbers, of which k is the next
abbrev Own : ℕ → ℕ → ℕ → List ℕ → List ℕ → Type 0
Own n m k seen ds = (c : ℕ) → n < c → c ≤ m → number_from k seen ds c ≡ c

own_counts : (ds : List ℕ) (n m k : ℕ) (seen : List ℕ) → k ≡ n + 1 → n ≤ m → Lowest n seen → AllByRecursion (IsIn m) ds → Own n m k seen ds → Counts n ds m
own_counts [] n m k seen e l low each own = go (cases_lt n m)
  where
    go : (n < m) ⊎ (m ≤ n) → n ≡ m
    go (inr h) = omega (arith, l, h)
    go (inl h) = let z : 0 ≡ n + 1 = own (n + 1) (omega arith) (omega (arith, h)) in absurd (omega (arith, z))
own_counts (d ∷ ds) n m k seen e l low each own =
    go (has seen d) refl (λ o. own_counts ds n m k seen e l low each.1 o)
    (λ le lo o. own_counts ds (suc n) m (k + 1) (d ∷ seen) (omega (arith, e)) le lo each.1 o)
  where
    -- of a cell that was counted
    again : (h : has seen d ≡ true) → Own n m k seen ds
    again h c lo hi = sym (ap (λ t. turn t (eqb c d) k (number_from k seen ds c) (number_from (k + 1) (d ∷ seen) ds c)) h) ∙ own c lo hi

    above : has seen d ≡ false → n < d
    above h = go' (cases_lt n d)
      where
        go' : (n < d) ⊎ (d ≤ n) → n < d
        go' (inl x) = x
        go' (inr x) = let y : true ≡ false = sym (low.1 d each.0.0 x) ∙ h in cc

    -- of one that was not: it is the next
    next : has seen d ≡ false → d ≡ suc n
    next h =
        let own_d : k ≡ d =
        sym (ap (λ t. turn t (eqb d d) k (number_from k seen ds d) (number_from (k + 1) (d ∷ seen) ds d)) h
        ∙ ap (λ t. turn false t k (number_from k seen ds d) (number_from (k + 1) (d ∷ seen) ds d)) (eq-eqb d d refl)) ∙ own d (above h) each.0.1 in
        omega (arith, own_d, e)

    others : has seen d ≡ false → d ≡ suc n → Own (suc n) m (k + 1) (d ∷ seen) ds
    others h is c lo hi =
        sym (ap (λ t. turn t (eqb c d) k (number_from k seen ds c) (number_from (k + 1) (d ∷ seen) ds c)) h
        ∙ ap (λ t. turn false t k (number_from k seen ds c) (number_from (k + 1) (d ∷ seen) ds c)) (other (eqb c d) refl)) ∙ own c (omega (arith, lo)) hi
      where
        other : (b : Bool) → eqb c d ≡ b → eqb c d ≡ false
        other true f = let g = eqb-true c d f in absurd (omega (arith, g, is, lo))
        other false f = f

    go : (b : Bool) → has seen d ≡ b → (Own n m k seen ds → Counts n ds m) → (suc n ≤ m → Lowest (suc n) (d ∷ seen) → Own (suc n) m (k + 1) (d ∷ seen) ds → Counts (suc n) ds m)
        → Counts n (d ∷ ds) m
    go true h same more = inl (each.0.0, low.0 d h, same (again h))
    go false h same more = let is = next h in let q = each.0.1 in inr (is, more (omega (arith, is, q)) (lowest_more n seen d is low) (others h is))

pub named_in_turn : (ds : List ℕ) (m : ℕ) → AllByRecursion (IsIn m) ds → ((c : ℕ) → 0 < c → c ≤ m → canonical_number ds c ≡ c) → Counts 0 ds m
named_in_turn ds m each own = own_counts ds 0 m 1 [] refl (omega arith) ((λ d h. cc), (λ d l h. absurd (omega arith))) each own
