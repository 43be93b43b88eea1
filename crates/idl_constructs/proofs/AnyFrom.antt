-- A test of the items of a list that are seen, from an index on.
use Rattle.std.proofs.Common.{◌≡◌, ◌∙◌, ℕ, zero, suc, arith, ◌+◌, ◌<◌, ◌≤◌, Bool, true, false, ◌||◌, List, [], ◌∷◌, map, drop, length, get_or, refl, ap, sym}
use Rattle.std.specs.List.{list_any}
use Rattle.std.proofs.lemmas.List.{drop_more, drop_all}

module _ {X Y : Type 0} (see : X → Y) (test : Y → Bool) (xs : List X) where
  abbrev pub any_from : ℕ → Bool
  any_from i = list_any test (map see (drop i xs))

  here : (i : ℕ) (x : X) → i < length xs → x ≡ get_or xs i x → any_from i ≡ (test (see x) || any_from (i + 1))
  here i x below is = ap (λ l. list_any test (map see l)) (drop_more xs i x below ∙ ap (λ y. y ∷ drop (i + 1) xs) (sym is))

  pub found_there : (i : ℕ) (x : X) → i < length xs → x ≡ get_or xs i x → true ≡ test (see x) → true ≡ any_from i
  found_there i x below is e = sym (here i x below is ∙ ap (λ b. b || any_from (i + 1)) (sym e))

  pub not_there : (i : ℕ) (x : X) → i < length xs → x ≡ get_or xs i x → false ≡ test (see x) → any_from i ≡ any_from (i + 1)
  not_there i x below is e = here i x below is ∙ ap (λ b. b || any_from (i + 1)) (sym e)

  pub nowhere : (i : ℕ) → length xs ≤ i → false ≡ any_from i
  nowhere i past = sym (ap (λ l. list_any test (map see l)) (drop_all i xs past))

  -- the same, of an item that was copied
  same_item : (ys : List X) (i : ℕ) (d e : X) → i < length ys → get_or ys i d ≡ get_or ys i e
  same_item [] i d e below = absurd (omega (arith, below))
  same_item (y ∷ ys) zero d e below = refl
  same_item (y ∷ ys) (suc i) d e below = same_item ys i d e (omega (arith, below))

  pub found_copy : (i : ℕ) (d : X) → i < length xs → true ≡ test (see (get_or xs i d)) → true ≡ any_from i
  found_copy i d below e = found_there i (get_or xs i d) below (same_item xs i d (get_or xs i d) below) e

  pub no_copy : (i : ℕ) (d : X) → i < length xs → false ≡ test (see (get_or xs i d)) → any_from i ≡ any_from (i + 1)
  no_copy i d below e = not_there i (get_or xs i d) below (same_item xs i d (get_or xs i d) below) e
