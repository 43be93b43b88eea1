-- The cells that are counted, from entry to entry.
use Rattle.std.proofs.Common.{◌≡◌, ◌≤◌, ℕ, ◌+◌, Bool, true, false, List, [], ◌∷◌, ◌++◌, Some, None, sym, subst, arith}
use Rattle.std.specs.Prelude.{cond}
use Rattle.std.specs.List.{AllByRecursion}
use Rattle.std.proofs.lemmas.Option.{same_Some}
use Rattle.nd_value.proofs.Apart.{all_append}
use Rattle.nd_grammar.specs.Entry.{EntryAt}
use Rattle.nd_grammar.specs.NextMark.{named_cell}
use Rattle.ndr_decoder_laws.proofs.verdict.CellsSeen.{entry_seen, known_seen, fresh_seen}
use Rattle.ndr_refs.specs.declared.referents.Known.{Known}
use Rattle.ndr_refs.specs.Known.{known}
use Rattle.ndr_decoder_laws.specs.steps.Good.{HasCells}

still_there : (n : ℕ) (xs : List (ℕ × Known)) → AllByRecursion (λ (x : ℕ × Known). x.1.cell.0 ≤ n) xs → AllByRecursion (λ (x : ℕ × Known). x.1.cell.0 ≤ n + 1) xs
still_there n [] a = tt
still_there n (x ∷ xs) a = let l : x.1.cell.0 ≤ n = a.0 in (omega (arith, l), still_there n xs a.1)

module _ (seen : List EntryAt) (numbers : List (ℕ × Known)) (n direct : ℕ) (c : HasCells seen numbers n direct) (x : EntryAt) where
  -- an entry that names no cell
  pub none_named : named_cell x.entry.kind ≡ None → HasCells (seen ++ x ∷ []) numbers n direct
  none_named e = record { named = entry_seen seen n direct c.named x e; there = c.there }

  -- the number of a cell that is known
  pub known_named : (v : ℕ) (k : Known) → known v numbers ≡ Some k → named_cell x.entry.kind ≡ Some k.cell.0 → HasCells (seen ++ x ∷ []) numbers n direct
  known_named v k e f = record { named = known_seen seen n direct c.named x k.cell.0 f (is_there numbers c.there e); there = c.there }
    where
      is_there : (xs : List (ℕ × Known)) → AllByRecursion (λ (y : ℕ × Known). y.1.cell.0 ≤ n) xs → known v xs ≡ Some k → k.cell.0 ≤ n
      is_there [] a e = cc
      is_there (y ∷ ys) a e = by_test _ e (is_there ys a.1)
        where
          by_test : (b : Bool) → cond b (Some y.1) (known v ys) ≡ Some k → (known v ys ≡ Some k → k.cell.0 ≤ n) → k.cell.0 ≤ n
          by_test true f g = subst (λ u. u.cell.0 ≤ n) (same_Some y.1 k f) a.0
          by_test false f g = g f

  -- the number of the next cell
  pub next_named : (m : ℕ) → m ≡ n + 1 → named_cell x.entry.kind ≡ Some (n + 1) → HasCells (seen ++ x ∷ []) numbers m direct
  next_named m e f =
      subst (λ k. HasCells (seen ++ x ∷ []) numbers k direct) (sym e) (record { named = fresh_seen seen n direct c.named x f; there = still_there n numbers c.there })

  -- and it is known from now on
  pub first_named : (m : ℕ) → m ≡ n + 1 → named_cell x.entry.kind ≡ Some (n + 1) → (v : ℕ) (k : Known) → k.cell.0 ≡ n + 1 → HasCells (seen ++ x ∷ []) (numbers ++ (v, k) ∷ []) m direct
  first_named m e f v k g =
      subst (λ j. HasCells (seen ++ x ∷ []) (numbers ++ (v, k) ∷ []) j direct) (sym e) (record {
        named = fresh_seen seen n direct c.named x f;
        there = all_append (λ (y : ℕ × Known). y.1.cell.0 ≤ n + 1) numbers ((v, k) ∷ []) (still_there n numbers c.there) (omega (arith, g), tt);
      })
