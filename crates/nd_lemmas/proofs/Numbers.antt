-- Lemmas of natural numbers.
use Rattle.std.proofs.Common.{◌≡◌, ◌⊎◌, inl, inr, ℕ, zero, suc, refl, ◌+◌, ◌*◌, ◌≤◌, arith, ◌<◌}
use Rattle.std.proofs.lemmas.Bool.{cases_lt}

pub zero_or : (v : ℕ) → (v ≡ 0) ⊎ ((k : ℕ) × (v ≡ suc k))
zero_or zero = inl refl
zero_or (suc k) = inr (k, refl)

pub times_more : (d x y : ℕ) → x ≤ y → d * x ≤ d * y
times_more zero x y h = omega arith
times_more (suc d) x y h =
    let a : d * x ≤ d * y = times_more d x y h in
    let e : suc d * x ≡ x + d * x = omega arith in
    let f : suc d * y ≡ y + d * y = omega arith in
    omega arith

pub no_less : (n m : ℕ) → m ≤ n → ¬ (m < n) → n ≡ m
no_less n m l k = by_case (cases_lt m n)
  where
    by_case : (m < n) ⊎ (n ≤ m) → n ≡ m
    by_case (inl x) = absurd (k x)
    by_case (inr x) = omega arith
