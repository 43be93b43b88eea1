-- Line and column of a place in a text within its limit fit in 32 bits.
use Rattle.std.proofs.Common.{ℕ, ◌+◌, ◌<◌, ◌≤◌, ◌^◌, Bool, true, false, cond, eqb, List, [], ◌∷◌, length, arith}
use Rattle.nd_base.specs.Text.{position}
use Rattle.text_grammar.specs.declared.TheConstants.{TEXT_LIMIT}

-- each octet adds one at most
within : (line column : ℕ) (octets : List ℕ) → 1 ≤ column → ((position line column octets).0 ≤ line + length octets) × ((position line column octets).1 ≤ column + length octets)
within line column [] some = (omega arith, omega arith)
within line column (c ∷ cs) some = by (eqb c 10) (within (line + 1) 1 cs (omega arith)) (within line (column + 1) cs (omega (arith, some))) where
  by : (b : Bool) → ((position (line + 1) 1 cs).0 ≤ line + 1 + length cs) × ((position (line + 1) 1 cs).1 ≤ 1 + length cs)
      → ((position line (column + 1) cs).0 ≤ line + length cs) × ((position line (column + 1) cs).1 ≤ column + 1 + length cs)
      → ((cond b (position (line + 1) 1 cs) (position line (column + 1) cs)).0 ≤ line + length (c ∷ cs))
      × ((cond b (position (line + 1) 1 cs) (position line (column + 1) cs)).1 ≤ column + length (c ∷ cs))
  by true h k = (omega (arith, h.0), omega (arith, h.1, some))
  by false h k = (omega (arith, k.0), omega (arith, k.1))

pub line_low : (octets : List ℕ) → length octets ≤ TEXT_LIMIT → (position 1 1 octets).0 < 2 ^ 32
line_low octets few = let h = within 1 1 octets (omega arith) in omega (arith, h.0, few)

pub column_low : (octets : List ℕ) → length octets ≤ TEXT_LIMIT → (position 1 1 octets).1 < 2 ^ 32
column_low octets few = let h = within 1 1 octets (omega arith) in omega (arith, h.1, few)
