-- Roots, members or arms are compared with a name or a label one by one.
-- `xs` are all of them, `x` and `y` are some of them, `i` and `n` places, `key` is what is compared, `wanted` what it is compared with.
use Rattle.std.proofs.Common.{◌≡◌, ◌⊎◌, inl, inr, ℕ, zero, suc, ◌+◌, ◌<◌, ◌≤◌, List, [], ◌∷◌, length, Some, Bool, true, false, refl, ap, sym, ◌∙◌, arith}
use Rattle.std.proofs.lemmas.Option.{same_Some}
use Rattle.std.proofs.lemmas.Slice.Eq.{bytes_eq-Decides}
use Rattle.std.specs.List.{slice_get}
use Rattle.std.specs.Str.{bytes_eq}

-- ## Names

pub same_names : (xs ys : List ℕ) (r : Bool) → r ≡ bytes_eq xs ys → r ≡ true → xs ≡ ys
same_names xs ys r is same = (bytes_eq-Decides xs ys).0 (sym is ∙ same)

pub other_names : (xs ys : List ℕ) (r : Bool) → r ≡ bytes_eq xs ys → r ≡ false → xs ≡ ys → ⊥
other_names xs ys r is differ same = let e : false ≡ true = sym differ ∙ is ∙ (bytes_eq-Decides xs ys).1 same in cc

-- ## Places

below_or_at : (i n : ℕ) → i < n + 1 → (i < n) ⊎ (i ≡ n)
below_or_at zero zero l = inr refl
below_or_at zero (suc n) l = inl (omega arith)
below_or_at (suc i) zero l = absurd (omega (arith, l))
below_or_at (suc i) (suc n) l = go (below_or_at i n (omega (arith, l)))
  where
    go : (i < n) ⊎ (i ≡ n) → (suc i < suc n) ⊎ (suc i ≡ suc n)
    go (inl h) = inl (omega (arith, h))
    go (inr e) = inr (ap suc e)

some_below : {A : Type 0} (xs : List A) (i : ℕ) (x : A) → slice_get xs i ≡ Some x → i < length xs
some_below [] i x e = cc
some_below (y ∷ xs) zero x e = omega arith
some_below (y ∷ xs) (suc i) x e = let l : i < length xs = some_below xs i x e in omega (arith, l)

-- none of the first has what is wanted
abbrev pub NoneBefore : {K : Type 0} (A : Type 0) → (A → K) → List A → K → ℕ → Type 0
NoneBefore A key xs wanted n = (i : ℕ) (x : A) → i < n → slice_get xs i ≡ Some x → key x ≡ wanted → ⊥

pub none_first : {K : Type 0} (A : Type 0) (key : A → K) (xs : List A) (wanted : K) → NoneBefore A key xs wanted 0
none_first A key xs wanted i x l is same = absurd (omega (arith, l))

pub none_more : {K : Type 0} (A : Type 0) (key : A → K) (xs : List A) (wanted : K) (n : ℕ) (y : A) → NoneBefore A key xs wanted n → slice_get xs n ≡ Some y
    → (key y ≡ wanted → ⊥) → NoneBefore A key xs wanted (n + 1)
none_more A key xs wanted n y before there differs i x l is same = go (below_or_at i n l)
  where
    go : (i < n) ⊎ (i ≡ n) → ⊥
    go (inl h) = before i x h is same
    go (inr e) =
        let one : Some x ≡ Some y = sym is ∙ ap (slice_get xs) e ∙ there in
        differs (sym (ap key (same_Some _ _ one)) ∙ same)

pub none_at_all : {K : Type 0} (A : Type 0) (key : A → K) (xs : List A) (wanted : K) (n : ℕ) → length xs ≤ n → NoneBefore A key xs wanted n
    → (i : ℕ) (x : A) → slice_get xs i ≡ Some x → key x ≡ wanted → ⊥
none_at_all A key xs wanted n l before i x is same = let h : i < length xs = some_below xs i x is in before i x (omega (arith, h, l)) is same
