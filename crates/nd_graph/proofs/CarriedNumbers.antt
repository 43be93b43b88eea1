-- The canonical number of a cell is that of the cell that it is carried to.
-- `w` is a setting, `g` a graph that conforms, `h` one that is the same up to the numbers of its cells, `k` is the number of a cell of g.
use Rattle.std.proofs.Common.{◌≡◌, ℕ, zero, suc, ◌<◌, ◌≤◌, List, [], length, refl, ap, ◌∙◌}
use Rattle.std.specs.List.{AllByRecursion}
use Rattle.nd_value.specs.declared.value.Graph.{Graph}
use Rattle.nd_value.specs.Setting.{Setting, root_list}
use Rattle.nd_value.specs.Deferral.{Step, Deferral, due_roots, before_pipes}
use Rattle.nd_value.specs.Canon.{named_cells, canonical_number, Same}
use Rattle.nd_value.specs.Conforms.{Conforms}
use Rattle.nd_grammar.specs.LegalSide.{IsLegalSide}
use Rattle.nd_grammar.proofs.ChosenRepresents.{dues, steps_within, all_members}
use Rattle.nd_grammar.proofs.written.SameForms.{AllDue, canon_same, Alike, orders_alike}

same_roots : (m : ℕ → ℕ) (i n : ℕ) → AllDue m (due_roots i n) (due_roots i n)
same_roots m i zero = tt
same_roots m i (suc n) = (refl, same_roots m (suc i) n)

module _ (w : Setting) (side : IsLegalSide w) (g h : Graph) (c : Conforms w g) (s : Same g h) where
  abbrev AreAll : Graph → List Step → Type 0
  AreAll x steps = Deferral w x [] (due_roots 0 (before_pipes (root_list w))) steps

  abbrev IsIn : ℕ → Type 0
  IsIn k = (0 < k) × (k ≤ length g.cells)

  apart : (a b : ℕ) → IsIn a → IsIn b → s.image a ≡ s.image b → a ≡ b
  apart a b x y e = s.one_to_one a b x.0 x.1 y.0 y.1 e

  pub numbers_alike : (us vs : List Step) → AreAll g us → AreAll h vs → (k : ℕ) → 0 < k → k ≤ length g.cells
      → canonical_number (named_cells w h vs) (s.image k) ≡ canonical_number (named_cells w g us) k
  numbers_alike us vs a b k some few =
      let all : Alike w side g h c s us vs = orders_alike w side g h c s a b refl (same_roots s.image 0 (before_pipes (root_list w))) (dues w side g c) (λ q z. absurd z) in
      let ds : List ℕ = named_cells w g us in
      let in_all : AllByRecursion IsIn ds = all_members IsIn ds (λ d z. steps_within w side g c a (dues w side g c) d z) in
      ap (λ (l : List ℕ). canonical_number l (s.image k)) all.named ∙ canon_same s.image IsIn apart ds k in_all (some, few)
