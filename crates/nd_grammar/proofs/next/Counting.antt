-- As many numbers: lists without repetition that have the same members.
use Rattle.std.proofs.Common.{◌≡◌, ℕ, ◌+◌, ◌<◌, ◌≤◌, zero, suc, List, [], ◌∷◌, ◌++◌, length, refl, ap, sym, ◌∙◌, inl, inr, ◌⊎◌, arith, subst, length-append}
use Rattle.std.specs.List.{AllByRecursion}
use Rattle.std.proofs.lemmas.Bool.{cases_lt}
use Rattle.nd_value.specs.Setting.{Among}
use Rattle.nd_value.proofs.Apart.{all_among}

abbrev pub Distinct : List ℕ → Type 0
Distinct [] = Unit {0}
Distinct (x ∷ xs) = AllByRecursion (λ y. x ≡ y → ⊥) xs × Distinct xs

-- a list parted at one of its members
abbrev Parted : List ℕ → ℕ → Type 0
Parted ys x = (front : List ℕ) × (back : List ℕ) × (ys ≡ front ++ x ∷ back)

parted : (ys : List ℕ) (x : ℕ) → Among ys x → Parted ys x
parted [] x a = absurd a
parted (y ∷ ys) x (inl e) = ([], ys, ap (λ u. u ∷ ys) (sym e))
parted (y ∷ ys) x (inr a) = let (front, back, e) = parted ys x a in (y ∷ front, back, ap (λ u. y ∷ u) e)

without : (front back : List ℕ) (x y : ℕ) → (x ≡ y → ⊥) → Among (front ++ x ∷ back) y → Among (front ++ back) y
without [] back x y n (inl e) = absurd (n (sym e))
without [] back x y n (inr a) = a
without (f ∷ front) back x y n (inl e) = inl e
without (f ∷ front) back x y n (inr a) = inr (without front back x y n a)

-- a list without repetition is no longer than one that has its members
pub no_longer : (xs ys : List ℕ) → Distinct xs → ((c : ℕ) → Among xs c → Among ys c) → length xs ≤ length ys
no_longer [] ys d h = omega arith
no_longer (x ∷ xs) ys d h =
    let (front, back, e) = parted ys x (h x (inl refl)) in
    let r : length xs ≤ length (front ++ back) = no_longer xs (front ++ back) d.1 (λ c a.
    without front back x c (all_among (λ y. x ≡ y → ⊥) xs c a d.0) (subst (λ u. Among u c) e (h c (inr a)))) in
    let f : length ys ≡ length front + suc (length back) = ap length e ∙ length-append front (x ∷ back) in
    let k : length (front ++ back) ≡ length front + length back = length-append front back in
    omega arith

-- the numbers from n down to 1
abbrev pub down : ℕ → List ℕ
down zero = []
down (suc n) = suc n ∷ down n

pub length_down : (n : ℕ) → length (down n) ≡ n
length_down zero = refl
length_down (suc n) = ap suc (length_down n)

pub among_down : (n c : ℕ) → 0 < c → c ≤ n → Among (down n) c
among_down zero c a b = absurd (omega arith)
among_down (suc n) c a b = go (cases_lt n c) (λ h. among_down n c a h)
  where
    go : (n < c) ⊎ (c ≤ n) → (c ≤ n → Among (down n) c) → Among (down (suc n)) c
    go (inl h) r = let e : c ≡ suc n = omega arith in inl e
    go (inr h) r = inr (r h)

below_all : (n m : ℕ) → n ≤ m → AllByRecursion (λ y. suc m ≡ y → ⊥) (down n)
below_all zero m h = tt
below_all (suc n) m h = ((λ e. omega arith), below_all n m (omega arith))

pub down_distinct : (n : ℕ) → Distinct (down n)
down_distinct zero = tt
down_distinct (suc n) = (below_all n n (omega arith), down_distinct n)
