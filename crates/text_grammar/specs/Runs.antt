-- Runs of letters and digits at the front of a text, and the numbers that they write.
use Rattle.std.specs.Prelude.{◌≡◌, ℕ, ◌+◌, ◌-◌, ◌*◌, ◌^◌, ◌<◌, Bool, true, false, ◌==◌, not, ◌&&◌, nat_le, if◌then◌else◌, List, [], ◌∷◌, ◌++◌, length}
use Rattle.std.specs.Prelude.{Option, None, Some, decimal}
use Rattle.std.specs.List.{list_all}
use Rattle.nd_base.specs.Text.{is_word_octet, is_digit}
use Rattle.text_grammar.specs.Tokens.{ends_run}

-- the letters, digits and `_` at the front, and the rest
abbrev pub run : List ℕ → List ℕ
run [] = []
run (c ∷ cs) = if is_word_octet c then c ∷ run cs else []

abbrev pub after_run : List ℕ → List ℕ
after_run [] = []
after_run (c ∷ cs) = if is_word_octet c then after_run cs else c ∷ cs

-- ## Strings

-- what follows a closing quote
abbrev pub after_quote : List ℕ → Option (List ℕ)
after_quote [] = None
after_quote (c ∷ cs) = if c == 34 then Some cs else None

-- ## Numbers

-- the value of digits, after others that have a value
abbrev pub value_from : ℕ → List ℕ → ℕ
value_from n [] = n
value_from n (c ∷ cs) = value_from (n * 10 + (c - 48)) cs

abbrev is_empty : List ℕ → Bool
is_empty [] = true
is_empty (c ∷ cs) = false

-- 0 with more after it
abbrev pub leading_zero : List ℕ → Bool
leading_zero (c ∷ d ∷ ds) = c == 48
leading_zero run = false

-- 1 to 20 digits, without a leading zero but for 0 itself
abbrev pub is_number : List ℕ → Bool
is_number run = not (is_empty run) && (not (leading_zero run) && (nat_le (length run) 20 && list_all is_digit run))

-- the number that a run writes
abbrev pub number_of : List ℕ → Option ℕ
number_of run = if is_number run then Some (value_from 0 run) else None

-- a number of at most 20 digits comes first, and the rest follows it
pub record IsNatural (text : List ℕ) (n : ℕ) (rest : List ℕ) : Type 0 where
  pub is : text ≡ decimal n ++ rest
  pub small : n < 10 ^ 20
  pub ended : ends_run rest ≡ true

-- ## Octets

-- the first octet is one of these
abbrev pub begins : (ℕ → Bool) → List ℕ → Bool
begins test [] = false
begins test (c ∷ cs) = test c
