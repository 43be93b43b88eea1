-- Two words and more than nine are no command.
use Rattle.std.proofs.Common.{◌≡◌, ℕ, ◌<◌, ◌≤◌, List, [], ◌∷◌, length, map, None, refl, arith}
use Rattle.command_line.specs.Words.{counted_command}

module _ {X : Type 0} (f : X → List ℕ) where
  pub two_words : (xs : List X) → 2 ≤ length xs → length xs < 3 → None ≡ counted_command (map f xs)
  two_words [] least most = absurd (omega (arith, least))
  two_words (x0 ∷ []) least most = absurd (omega (arith, least))
  two_words (x0 ∷ x1 ∷ []) least most = refl
  two_words (x0 ∷ x1 ∷ x2 ∷ xs) least most = absurd (omega (arith, most))

  pub many_words : (xs : List X) → 10 ≤ length xs → None ≡ counted_command (map f xs)
  many_words [] least = absurd (omega (arith, least))
  many_words (x0 ∷ []) least = absurd (omega (arith, least))
  many_words (x0 ∷ x1 ∷ []) least = absurd (omega (arith, least))
  many_words (x0 ∷ x1 ∷ x2 ∷ []) least = absurd (omega (arith, least))
  many_words (x0 ∷ x1 ∷ x2 ∷ x3 ∷ []) least = absurd (omega (arith, least))
  many_words (x0 ∷ x1 ∷ x2 ∷ x3 ∷ x4 ∷ []) least = absurd (omega (arith, least))
  many_words (x0 ∷ x1 ∷ x2 ∷ x3 ∷ x4 ∷ x5 ∷ []) least = absurd (omega (arith, least))
  many_words (x0 ∷ x1 ∷ x2 ∷ x3 ∷ x4 ∷ x5 ∷ x6 ∷ []) least = absurd (omega (arith, least))
  many_words (x0 ∷ x1 ∷ x2 ∷ x3 ∷ x4 ∷ x5 ∷ x6 ∷ x7 ∷ []) least = absurd (omega (arith, least))
  many_words (x0 ∷ x1 ∷ x2 ∷ x3 ∷ x4 ∷ x5 ∷ x6 ∷ x7 ∷ x8 ∷ []) least = absurd (omega (arith, least))
  many_words (x0 ∷ x1 ∷ x2 ∷ x3 ∷ x4 ∷ x5 ∷ x6 ∷ x7 ∷ x8 ∷ x9 ∷ xs) least = refl
