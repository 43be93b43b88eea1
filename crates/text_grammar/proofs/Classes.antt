-- Which octets can begin what.
use Rattle.std.proofs.Common.{◌≡◌, ℕ, ◌≤◌, true, arith, Bool, not, eqb}
use Rattle.std.proofs.lemmas.Bool.Decides.{nat_tests}
use Rattle.std.proofs.lemmas.Bool.{or_left, or_right}
use Rattle.nd_base.specs.Text.{is_letter, is_digit, is_word_octet, is_hex_digit}

pub digit_word : (c : ℕ) → is_digit c ≡ true → is_word_octet c ≡ true
digit_word c h = or_right (is_letter c) (is_digit c) h

pub letter_word : (c : ℕ) → is_letter c ≡ true → is_word_octet c ≡ true
letter_word c h = or_left (is_letter c) (is_digit c) h

-- a digit is from 48 to 57
pub digit_range : (c : ℕ) → is_digit c ≡ true → (48 ≤ c) × (c ≤ 57)
digit_range c h = grind (arith, nat_tests, h)

pub range_digit : (c : ℕ) → 48 ≤ c → c ≤ 57 → is_digit c ≡ true
range_digit c h k = grind (arith, nat_tests, h, k)

-- an octet that is no hyphen, as each digit of a UUID
abbrev pub is_no_hyphen : ℕ → Bool
is_no_hyphen c = not (eqb c 45)

pub digit_no_hyphen : (c : ℕ) → is_hex_digit c ≡ true → is_no_hyphen c ≡ true
digit_no_hyphen c h = grind (arith, nat_tests, h)
