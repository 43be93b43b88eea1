-- How many octets an identifier has.
use Rattle.std.proofs.Common.{◌≡◌, ℕ, ◌≤◌, true, List, [], ◌∷◌, length, arith}
use Rattle.std.specs.Prelude.{nat_le}
use Rattle.std.proofs.lemmas.Bool.{leb-true, and_parts as both}
use Rattle.nd_base.specs.Text.{is_word, is_identifier}

some_octets : (name : List ℕ) → is_word name ≡ true → 1 ≤ length name
some_octets [] h = cc
some_octets (c ∷ cs) h = omega arith

pub identifier_length : (name : List ℕ) → is_identifier name ≡ true → (1 ≤ length name) × (length name ≤ 31)
identifier_length name h =
    let parts = both (is_word name) (nat_le (length name) 31) h in
    (some_octets name parts.0, leb-true (length name) 31 parts.1)
