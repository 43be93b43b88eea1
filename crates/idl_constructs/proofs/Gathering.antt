-- Lists that are gathered item by item.
use Rattle.std.proofs.Common.{◌≡◌, ℕ, ◌+◌, ◌<◌, ◌≤◌, sym, ap, ◌∙◌, List, [], ◌∷◌, ◌++◌, drop, length, get_or, append_assoc, append-nil}
use Rattle.std.proofs.lemmas.List.{drop_more, drop_all}

module _ {X A : Type 0} (part : List X → List A) (one : X → List A) (cons : (x : X) (more : List X) → part (x ∷ more) ≡ one x ++ part more) (xs : List X) (all : List A) where
  -- one more
  pub gather : (done next : List A) (i : ℕ) (x : X) → i < length xs → x ≡ get_or xs i x → next ≡ done ++ one x → done ++ part (drop i xs) ≡ all → next ++ part (drop (i + 1) xs) ≡ all
  gather done next i x below is e before =
      ap (λ l. l ++ part (drop (i + 1) xs)) e
      ∙ (append_assoc done (one x) (part (drop (i + 1) xs))
      ∙ (ap (λ l. done ++ l) (sym (ap part (drop_more xs i x below ∙ ap (λ y. y ∷ drop (i + 1) xs) (sym is)) ∙ cons x (drop (i + 1) xs))) ∙ before))

  -- all are there
  pub gathered : (done : List A) (i : ℕ) → length xs ≤ i → part [] ≡ [] → done ++ part (drop i xs) ≡ all → done ≡ all
  gathered done i past none before = sym (ap (λ l. done ++ l) (ap part (drop_all i xs past) ∙ none) ∙ append-nil done) ∙ before
