-- The numbers that full pointers have had are a numbering of their cells.
use Rattle.std.proofs.Common.{◌≡◌, ℕ, ◌^◌, ◌<◌, List, [], ◌∷◌, length, refl, ap, sym, ◌∙◌, inl, inr, subst}
use Rattle.std.specs.Prelude.{eqb, cond}
use Rattle.std.specs.List.{AllByRecursion}
use Rattle.std.proofs.lemmas.Bool.{eq-eqb}
use Rattle.nd_value.specs.Setting.{Among}
use Rattle.nd_value.specs.Conforms.{AllEarlier}
use Rattle.nd_value.proofs.Apart.{all_among}
use Rattle.nd_value.proofs.Waiting.{not_equal}
use Rattle.nd_grammar.specs.Stream.{IsNumbering}
use Rattle.nd_grammar.specs.Reader.{Names}
use Rattle.nd_grammar.proofs.reader.ReaderNodes.{Agree}
use Rattle.nd_grammar.specs.ReaderState.{numbered_cells, NumberOk, Differ, NumbersOk}

-- the number of a cell
abbrev pub number_of_cell : List (ℕ × ℕ) → ℕ → ℕ
number_of_cell [] c = 0
number_of_cell (x ∷ xs) c = cond (eqb x.1 c) x.0 (number_of_cell xs c)

behind : (x : ℕ × ℕ) (xs ys : List (ℕ × ℕ)) → AllByRecursion (Differ x) ys → Agree (number_of_cell xs) ys → Agree (number_of_cell (x ∷ xs)) ys
behind x xs [] d a = tt
behind x xs (y ∷ ys) d a =
    (ap (λ b. cond b x.0 (number_of_cell xs y.1)) (not_equal x.1 y.1 d.0.1) ∙ a.0, behind x xs ys d.1 a.1)

pub numbers_agree : (xs : List (ℕ × ℕ)) → AllEarlier Differ xs → Agree (number_of_cell xs) xs
numbers_agree [] a = tt
numbers_agree (x ∷ xs) a = (ap (λ b. cond b x.0 (number_of_cell xs x.1)) (eq-eqb x.1 x.1 refl), behind x xs xs a.0 (numbers_agree xs a.1))

its_number : (xs : List (ℕ × ℕ)) (c : ℕ) → Among (numbered_cells xs) c → (x : ℕ × ℕ) × Among xs x × (c ≡ x.1)
its_number [] c m = absurd m
its_number (x ∷ xs) c (inl e) = (x, inl refl, e)
its_number (x ∷ xs) c (inr m) = let (y, a, e) = its_number xs c m in (y, inr a, e)

same_number : (xs : List (ℕ × ℕ)) → AllEarlier Differ xs → (x y : ℕ × ℕ) → Among xs x → Among xs y → x.0 ≡ y.0 → x.1 ≡ y.1
same_number [] a x y m n e = absurd m
same_number (z ∷ xs) a x y (inl f) (inl g) e = ap (λ u. u.1) (f ∙ sym g)
same_number (z ∷ xs) a x y (inl f) (inr n) e = absurd ((all_among (Differ z) xs y n a.0).0 (ap (λ u. u.0) (sym f) ∙ e))
same_number (z ∷ xs) a x y (inr m) (inl g) e = absurd ((all_among (Differ z) xs x m a.0).0 (ap (λ u. u.0) (sym g) ∙ sym e))
same_number (z ∷ xs) a x y (inr m) (inr n) e = same_number xs a.1 x y m n e

module _ (s : Names) (ok : NumbersOk s) (cells : List ℕ) (each : (c : ℕ) → Among cells c → Among (numbered_cells s.numbers) c) where
  abbrev nums : ℕ → ℕ
  nums = number_of_cell s.numbers

  number_is : (x : ℕ × ℕ) → Among s.numbers x → nums x.1 ≡ x.0
  number_is x m = all_among (λ x. nums x.1 ≡ x.0) s.numbers x m (numbers_agree s.numbers ok.apart)

  ranged : (c : ℕ) → Among cells c → (0 < nums c) × (nums c < 2 ^ 32)
  ranged c m =
      let (x, a, e) = its_number s.numbers c (each c m) in
      let f : nums c ≡ x.0 = ap nums e ∙ number_is x a in
      let o : NumberOk (length s.cells) x = all_among (NumberOk (length s.cells)) s.numbers x a ok.each in
      (subst (λ u. 0 < u) (sym f) o.0, subst (λ u. u < 2 ^ 32) (sym f) o.1)

  one : (c d : ℕ) → Among cells c → Among cells d → nums c ≡ nums d → c ≡ d
  one c d m n h =
      let (x, a, e) = its_number s.numbers c (each c m) in
      let (y, b, f) = its_number s.numbers d (each d n) in
      let z : x.0 ≡ y.0 = sym (number_is x a) ∙ ap nums (sym e) ∙ h ∙ ap nums f ∙ number_is y b in
      e ∙ same_number s.numbers ok.apart x y a b z ∙ sym f

  -- the names' numbers are a numbering of these cells
  pub is_numbering : IsNumbering (number_of_cell s.numbers) cells
  is_numbering = record { in_range = ranged; one_to_one = one }
