-- A token that is no end is in the text.
use Rattle.std.proofs.Common.{◌≡◌, ℕ, ◌<◌, ◌≤◌, Bool, true, false, length, ap, arith, ◌∙◌}
use Rattle.std.proofs.Math.Decide.{dec_lt}
use Rattle.std.proofs.lemmas.List.{get_or_past}
use Rattle.nd_lemmas.proofs.Booleans.{clash}
use Rattle.idl_grammar.specs.Text.{Text, the_end, symbol_at, is}

pub test_within : (t : Text) (i : ℕ) (good : ℕ → Bool) → good 0 ≡ false → good (symbol_at t i) ≡ true → i < length t
test_within t i good not_end h = elim (dec_lt i (length t)) as (λ _. i < length t) [
  | yes lt ↦ lt
  | no ge ↦ clash (good (symbol_at t i)) h (ap (λ l. good l.symbol) (get_or_past t i the_end (let past : length t ≤ i = omega arith in past)) ∙ not_end)
]

pub mark_within : (t : Text) (i : ℕ) (s : ℕ) → is 0 s ≡ false → is (symbol_at t i) s ≡ true → i < length t
mark_within t i s not_end h = test_within t i (λ a. is a s) not_end h
