-- What is read in one pass: marks, digits, and the octets of strings that stand for themselves.
-- `c` is an octet.
use Rattle.std.specs.Prelude.{◌≡◌, ℕ, ◌-◌, Bool, true, false, ◌==◌, not, ◌&&◌, ◌||◌, nat_le, if◌then◌else◌, List, [], ◌∷◌, ◌++◌}
use Rattle.std.specs.Prelude.{length, Option, None, Some}
use Rattle.std.specs.List.{list_all}
use Rattle.nd_base.specs.Text.{is_digit}
use Rattle.text_grammar.specs.Tokens.{ends_run, is_plain}
use Rattle.text_grammar.specs.Runs.{leading_zero, value_from}

-- the marks = { } [ ] , : ( )
abbrev pub is_one_of_marks : ℕ → Bool
is_one_of_marks c = c == 61 || (c == 123 || (c == 125 || (c == 91 || (c == 93 || (c == 44 || (c == 58 || (c == 40 || c == 41)))))))

-- ## Numbers

-- the digit at the front of a text, as a number, and what follows
abbrev pub first_digit : List ℕ → Option (ℕ × List ℕ)
first_digit [] = None
first_digit (c ∷ cs) = if is_digit c then Some (c - 48, cs) else None

-- digits come first in a text, and have this value
pub record HasDigits (text : List ℕ) (value : ℕ) (rest : List ℕ) : Type 0 where
  pub digits : List ℕ
  pub are_digits : list_all is_digit digits ≡ true
  pub is : text ≡ digits ++ rest
  pub value_is : value ≡ value_from 0 digits

abbrev pub no_octets : List ℕ → Bool
no_octets [] = true
no_octets (c ∷ cs) = false

-- digits, with what follows them, are a number
abbrev pub is_whole : List ℕ → List ℕ → Bool
is_whole digits rest = not (no_octets digits) && (not (leading_zero digits) && (nat_le (length digits) 20 && ends_run rest))

-- ## Strings

-- the octets at the front that stand for themselves, and the rest
abbrev pub plain_run : List ℕ → List ℕ
plain_run [] = []
plain_run (c ∷ cs) = if is_plain c then c ∷ plain_run cs else []

abbrev pub after_plain : List ℕ → List ℕ
after_plain [] = []
after_plain (c ∷ cs) = if is_plain c then after_plain cs else c ∷ cs
