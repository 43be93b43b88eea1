-- The numbers of cells by the order in which they are named: distinct, from 1, and no more than there are cells.
use Rattle.std.proofs.Common.{◌≡◌, ℕ, ◌+◌, ◌<◌, ◌≤◌, Bool, true, false, List, [], ◌∷◌, length, refl, ap, sym, ◌∙◌, inl, inr, arith, subst}
use Rattle.std.specs.Prelude.{eqb, cond}
use Rattle.std.specs.List.{AllByRecursion}
use Rattle.std.proofs.lemmas.Bool.{eqb-true, eqb-false, eq-eqb}
use Rattle.nd_value.specs.Setting.{Among}
use Rattle.nd_value.specs.Canon.{has, number_from, canonical_number}
use Rattle.nd_grammar.proofs.next.Counting.{Distinct, no_longer, down, length_down, among_down}

pub has_among : (xs : List ℕ) (c : ℕ) → has xs c ≡ true → Among xs c
has_among [] c e = cc
has_among (x ∷ xs) c e = go (eqb c x) refl e (has_among xs c)
  where
    go : (b : Bool) → eqb c x ≡ b → cond b true (has xs c) ≡ true → (has xs c ≡ true → Among xs c) → Among (x ∷ xs) c
    go true f h r = inl (eqb-true c x f)
    go false f h r = inr (r h)

pub among_has : (xs : List ℕ) (c : ℕ) → Among xs c → has xs c ≡ true
among_has [] c m = absurd m
among_has (x ∷ xs) c (inl e) = ap (λ b. cond b true (has xs c)) (eq-eqb c x e)
among_has (x ∷ xs) c (inr m) = go (eqb c x) (among_has xs c m)
  where
    go : (b : Bool) → has xs c ≡ true → cond b true (has xs c) ≡ true
    go true h = refl
    go false h = h

not_had : (xs : List ℕ) (c : ℕ) → has xs c ≡ false → Among xs c → ⊥
not_had xs c e m = let f = among_has xs c m in cc

none_had : (xs : List ℕ) (d c : ℕ) → eqb c d ≡ false → has xs c ≡ false → has (d ∷ xs) c ≡ false
none_had xs d c e f = ap (λ b. cond b true (has xs c)) e ∙ f

apart_from : (xs : List ℕ) (d : ℕ) → (Among xs d → ⊥) → AllByRecursion (λ y. d ≡ y → ⊥) xs
apart_from [] d n = tt
apart_from (x ∷ xs) d n = ((λ e. n (inl e)), apart_from xs d (λ m. n (inr m)))

-- a number from n on, where d is counted next, if it was not before
abbrev by : Bool → Bool → ℕ → List ℕ → ℕ → List ℕ → ℕ → ℕ
by b e n seen d ds c = elim b [ true ↦ number_from n seen ds c | false ↦ elim e [ true ↦ n | false ↦ number_from (n + 1) (d ∷ seen) ds c ] ]

pub others : (d : ℕ) (ds : List ℕ) (c : ℕ) → Among (d ∷ ds) c → (c ≡ d → ⊥) → Among ds c
others d ds c (inl e) n = absurd (n e)
others d ds c (inr m) n = m

pub number_low : (ds : List ℕ) (n : ℕ) (seen : List ℕ) (c : ℕ) → Among ds c → has seen c ≡ false → n ≤ number_from n seen ds c
number_low [] n seen c m h = absurd m
number_low (d ∷ ds) n seen c m h = go (has seen d) refl (eqb c d) refl (number_low ds n seen c) (number_low ds (n + 1) (d ∷ seen) c)
  where
    go : (b : Bool) → has seen d ≡ b → (e : Bool) → eqb c d ≡ e → (Among ds c → has seen c ≡ false → n ≤ number_from n seen ds c)
        → (Among ds c → has (d ∷ seen) c ≡ false → n + 1 ≤ number_from (n + 1) (d ∷ seen) ds c) → n ≤ by b e n seen d ds c
    go true f e g r s = r (others d ds c m (λ k. (let z : has seen c ≡ true = ap (has seen) k ∙ f in cc))) h
    go false f true g r s = omega arith
    go false f false g r s = let z = s (others d ds c m (eqb-false c d g)) (none_had seen d c g h) in omega arith

pub number_high : (N : ℕ) (ds : List ℕ) (n : ℕ) (seen : List ℕ) (c : ℕ) → ((d : ℕ) → Among ds d → (0 < d) × (d ≤ N)) → ((d : ℕ) → Among seen d → (0 < d) × (d ≤ N)) → Distinct seen
    → n ≡ length seen + 1 → Among ds c → has seen c ≡ false → number_from n seen ds c ≤ N
number_high N [] n seen c r s u k m h = absurd m
number_high N (d ∷ ds) n seen c r s u k m h =
    go (has seen d) refl (eqb c d) refl (number_high N ds n seen c (λ x y. r x (inr y)) s u k) (λ f. number_high N ds (n + 1) (d ∷ seen) c (λ x y. r x (inr y)) more_seen (unlike f, u) (omega arith))
  where
    more_seen : (x : ℕ) → Among (d ∷ seen) x → (0 < x) × (x ≤ N)
    more_seen x (inl e) = subst (λ z. (0 < z) × (z ≤ N)) (sym e) (r d (inl refl))
    more_seen x (inr y) = s x y

    unlike : has seen d ≡ false → AllByRecursion (λ y. d ≡ y → ⊥) seen
    unlike f = apart_from seen d (not_had seen d f)

    fits : has seen d ≡ false → n ≤ N
    fits f =
        let z : length (d ∷ seen) ≤ length (down N) = no_longer (d ∷ seen) (down N) (unlike f, u) (λ x y. (let (a, b) = more_seen x y in among_down N x a b)) in
        let e = length_down N in
        omega arith

    go : (b : Bool) → has seen d ≡ b → (e : Bool) → eqb c d ≡ e → (Among ds c → has seen c ≡ false → number_from n seen ds c ≤ N)
        → (has seen d ≡ false → Among ds c → has (d ∷ seen) c ≡ false → number_from (n + 1) (d ∷ seen) ds c ≤ N) → by b e n seen d ds c ≤ N
    go true f e g p q = p (others d ds c m (λ k. (let z : has seen c ≡ true = ap (has seen) k ∙ f in cc))) h
    go false f true g p q = fits f
    go false f false g p q = q f (others d ds c m (eqb-false c d g)) (none_had seen d c g h)

pub number_apart : (ds : List ℕ) (n : ℕ) (seen : List ℕ) (a b : ℕ) → Among ds a → Among ds b → has seen a ≡ false → has seen b ≡ false
    → number_from n seen ds a ≡ number_from n seen ds b → a ≡ b
number_apart [] n seen a b m k h i e = absurd m
number_apart (d ∷ ds) n seen a b m k h i e =
    go (has seen d) refl (eqb a d) refl (eqb b d) refl (number_apart ds n seen a b) (number_apart ds (n + 1) (d ∷ seen) a b) e
  where
    old : (x : ℕ) → has seen d ≡ true → has seen x ≡ false → x ≡ d → ⊥
    old x f g e = let z : has seen x ≡ true = ap (has seen) e ∙ f in cc

    go : (s : Bool) → has seen d ≡ s → (x : Bool) → eqb a d ≡ x → (y : Bool) → eqb b d ≡ y
        → (Among ds a → Among ds b → has seen a ≡ false → has seen b ≡ false → number_from n seen ds a ≡ number_from n seen ds b → a ≡ b)
        → (Among ds a → Among ds b → has (d ∷ seen) a ≡ false → has (d ∷ seen) b ≡ false → number_from (n + 1) (d ∷ seen) ds a ≡ number_from (n + 1) (d ∷ seen) ds b → a ≡ b)
        → by s x n seen d ds a ≡ by s y n seen d ds b → a ≡ b
    go true f x g y j p q e = p (others d ds a m (old a f h)) (others d ds b k (old b f i)) h i e
    go false f true g true j p q e = eqb-true a d g ∙ sym (eqb-true b d j)
    go false f true g false j p q e =
        let z : n + 1 ≤ number_from (n + 1) (d ∷ seen) ds b = number_low ds (n + 1) (d ∷ seen) b (others d ds b k (eqb-false b d j)) (none_had seen d b j i) in
        absurd (omega arith)
    go false f false g true j p q e =
        let z : n + 1 ≤ number_from (n + 1) (d ∷ seen) ds a = number_low ds (n + 1) (d ∷ seen) a (others d ds a m (eqb-false a d g)) (none_had seen d a g h) in
        absurd (omega arith)
    go false f false g false j p q e =
        q (others d ds a m (eqb-false a d g)) (others d ds b k (eqb-false b d j)) (none_had seen d a g h) (none_had seen d b j i) e

-- the numbers of cells that are named
pub canon_range : (N : ℕ) (ds : List ℕ) → ((d : ℕ) → Among ds d → (0 < d) × (d ≤ N)) → (c : ℕ) → Among ds c → (0 < canonical_number ds c) × (canonical_number ds c ≤ N)
canon_range N ds r c m =
    let a : 1 ≤ canonical_number ds c = number_low ds 1 [] c m refl in
    (omega arith, number_high N ds 1 [] c r (λ d k. absurd k) tt refl m refl)

pub canon_apart : (ds : List ℕ) (a b : ℕ) → Among ds a → Among ds b → canonical_number ds a ≡ canonical_number ds b → a ≡ b
canon_apart ds a b m k e = number_apart ds 1 [] a b m k refl refl e
