-- What two names share once one of them ends.
use Rattle.std.proofs.Common.{◌≡◌, ◌∙◌, ◌⊎◌, inl, inr, ℕ, ◌+◌, ◌≤◌, List, [], ◌∷◌, length, drop, refl, ap, arith}
use Rattle.std.proofs.lemmas.List.{drop_all}
use Rattle.command_why.specs.Explained.{shared}

none_first : (other : List ℕ) → shared [] other ≡ 0
none_first [] = refl
none_first (c ∷ other) = refl

none_second : (one : List ℕ) → shared one [] ≡ 0
none_second [] = refl
none_second (c ∷ one) = refl

pub shared_whole : (one other : List ℕ) (count least : ℕ) → least ≤ count → count ≤ least → (least ≡ length one) ⊎ (least ≡ length other)
    → shared one other ≡ count + shared (drop count one) (drop count other) → least ≡ shared one other
shared_whole one other count least past within (inl whole) is =
    let none : shared (drop count one) (drop count other) ≡ 0 =
    ap (λ l. shared l (drop count other)) (drop_all count one (omega (arith, whole, past))) ∙ none_first (drop count other) in
    omega (arith, is, none, past, within)
shared_whole one other count least past within (inr whole) is =
    let none : shared (drop count one) (drop count other) ≡ 0 =
    ap (λ l. shared (drop count one) l) (drop_all count other (omega (arith, whole, past))) ∙ none_second (drop count one) in
    omega (arith, is, none, past, within)
