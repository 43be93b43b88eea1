-- How many of the roots that were read are reference pointers.
use Rattle.std.proofs.Common.{◌≡◌, ◌≤◌, ℕ, ◌+◌, zero, suc, Bool, true, false, List, [], ◌∷◌, length, Some, ap, sym, ◌∙◌, arith}
use Rattle.std.specs.Prelude.{cond, filter, take}
use Rattle.std.specs.List.{slice_get}
use Rattle.std.proofs.lemmas.Option.{same_Some}

abbrev pub one_if : Bool → ℕ
one_if b = cond b 1 0

module _ {X : Type 0} (test : X → Bool) where
  count_by : (b : Bool) (x : X) (xs : List X) → length (cond b (x ∷ xs) xs) ≡ length xs + one_if b
  count_by true x xs = omega arith
  count_by false x xs = omega arith

  add_later : (a b c d : ℕ) → b ≡ c + d → b + a ≡ (c + a) + d
  add_later a b c d e = omega (arith, e)

  -- one more of them
  pub count_more : (xs : List X) (i : ℕ) (x : X) → slice_get xs i ≡ Some x → length (filter test (take (suc i) xs)) ≡ length (filter test (take i xs)) + one_if (test x)
  count_more [] i x e = cc
  count_more (y ∷ ys) zero x e = count_by (test y) y [] ∙ ap (λ u. 0 + one_if (test u)) (same_Some y x e)
  count_more (y ∷ ys) (suc i) x e =
      count_by (test y) y (filter test (take (suc i) ys))
      ∙ add_later (one_if (test y)) (length (filter test (take (suc i) ys))) (length (filter test (take i ys))) (one_if (test x)) (count_more ys i x e)
      ∙ ap (λ n. n + one_if (test x)) (sym (count_by (test y) y (filter test (take i ys))))

  -- they are no more than those of all roots
  pub count_few : (n : ℕ) (xs : List X) → length (filter test (take n xs)) ≤ length (filter test xs)
  count_few zero xs = omega arith
  count_few (suc n) [] = omega arith
  count_few (suc n) (x ∷ xs) =
      let a = count_few n xs in
      let b : length (filter test (take (suc n) (x ∷ xs))) ≡ length (filter test (take n xs)) + one_if (test x) = count_by (test x) x (filter test (take n xs)) in
      let c : length (filter test (x ∷ xs)) ≡ length (filter test xs) + one_if (test x) = count_by (test x) x (filter test xs) in
      omega (arith, a, b, c)
