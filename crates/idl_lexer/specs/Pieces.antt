-- What a piece of each kind is, on its octets alone, and the values of numbers and characters.
use Rattle.std.specs.Prelude.{◌≡◌, ℕ, ◌+◌, ◌-◌, ◌<◌, ◌≤◌, ◌*◌, ◌^◌, Bool, true, false, not, ◌&&◌, ◌||◌, if◌then◌else◌, ◌==◌, nat_le, nat_lt, List, []}
use Rattle.std.specs.Prelude.{◌∷◌, length}
use Rattle.std.specs.Prelude.{Option, Some, None, codes, slice_index}
use Rattle.std.specs.List.{list_any, list_all}
use Rattle.nd_base.specs.Text.{is_letter, is_digit, is_hex_digit, is_word_octet}
use Rattle.idl_lexer.specs.declared.tokens.TokenKind.TheVariants as token
use Rattle.idl_lexer.specs.declared.cut.PieceKind.{PieceKind}
use Rattle.idl_lexer.specs.declared.cut.PieceKind.TheVariants as piece

-- ## The classes of octets that the tokens of IDL are made of

-- space, tab, line feed, form feed or carriage return
abbrev pub is_space : ℕ → Bool
is_space c = (c == 32 || c == 9) || (c == 10 || (c == 12 || c == 13))

-- one of the octets of a text
abbrev pub is_one_of : List ℕ → ℕ → Bool
is_one_of octets c = list_any (λ d. c == d) octets

-- what is in a literal for itself: 0x20 to 0x7E, but for its quote and the backslash
abbrev pub is_plain : ℕ → ℕ → Bool
is_plain quote c = (nat_le 32 c && nat_le c 126) && (not (c == quote) && not (c == 92))

-- what may follow a backslash: one of  a b f n r t v \ ? ' "
abbrev pub is_escape : ℕ → Bool
is_escape c = is_one_of (codes "abfnrtv?") c || (c == 92 || (c == 39 || c == 34))

-- the marks of one octet
abbrev pub is_mark_octet : ℕ → Bool
is_mark_octet c = is_one_of (codes "[](){},;:=*.+-/%~!&|^<>?") c

-- two octets, as a text has them
abbrev pub are : ℕ → ℕ → List ℕ → Bool
are c d text = c == slice_index text 0 && d == slice_index text 1

-- the marks of two octets
abbrev pub are_mark : ℕ → ℕ → Bool
are_mark c d =
    (are c d (codes "..") || (are c d (codes "<<") || are c d (codes ">>")))
    || ((are c d (codes "<=") || (are c d (codes ">=") || (are c d (codes "==") || are c d (codes "!="))))
    || (are c d (codes "&&") || are c d (codes "||")))

-- ## Pieces

-- Letters, digits and `_`, the first of them of a class. A word begins with a letter or `_`, a number with a
-- digit: whether such a run is a number in form and value is asked of the whole run.
pub record IsRun (first : ℕ → Bool) (octets : List ℕ) : Type 0 where
  pub some : 0 < length octets
  pub begins : first (slice_index octets 0) ≡ true
  pub each : (k : ℕ) → k < length octets → is_word_octet (slice_index octets k) ≡ true

-- the places of the dashes in a UUID
abbrev pub is_dash_place : ℕ → Bool
is_dash_place k = (k == 8 || k == 13) || (k == 18 || k == 23)

-- an octet of a UUID at a place of it
abbrev pub fits_uuid : ℕ → ℕ → Bool
fits_uuid k c = if is_dash_place k then c == 45 else is_hex_digit c

-- 8, 4, 4, 4 and 12 hexadecimal digits joined by `-`
pub record IsUuid (octets : List ℕ) : Type 0 where
  pub long : length octets ≡ 36
  pub each : (k : ℕ) → k < 36 → fits_uuid k (slice_index octets k) ≡ true

-- `/*`, any octets, and `*/`, which stands nowhere before
pub record IsComment (octets : List ℕ) : Type 0 where
  pub long : 4 ≤ length octets
  pub opens : (slice_index octets 0 ≡ 47) × (slice_index octets 1 ≡ 42)
  pub closes : (slice_index octets (length octets - 2) ≡ 42) × (slice_index octets (length octets - 1) ≡ 47)
  pub first : (k : ℕ) → 2 ≤ k → k + 2 < length octets → slice_index octets k ≡ 42 → slice_index octets (k + 1) ≡ 47 → ⊥

-- ### Literals: what may follow so far, and nothing after it

-- the closing quote
abbrev pub closes : ℕ → List ℕ → Bool
closes quote [] = false
closes quote (c ∷ []) = c == quote
closes quote (c ∷ d ∷ cs) = false

abbrev mutual
  -- characters, and the closing quote
  pub string_goes_on : List ℕ → Bool
  string_goes_on [] = false
  string_goes_on (c ∷ cs) = if c == 34 then closes 34 (c ∷ cs) else (if c == 92 then string_escape_goes_on cs else is_plain 34 c && string_goes_on cs)

  -- the same, after a backslash
  pub string_escape_goes_on : List ℕ → Bool
  string_escape_goes_on [] = false
  string_escape_goes_on (c ∷ cs) = is_escape c && string_goes_on cs

-- after a backslash: the rest of the one character, and the closing quote
abbrev pub char_escape_goes_on : List ℕ → Bool
char_escape_goes_on [] = false
char_escape_goes_on (c ∷ cs) = is_escape c && closes 39 cs

-- one character, and the closing quote
abbrev pub char_goes_on : List ℕ → Bool
char_goes_on [] = false
char_goes_on (c ∷ cs) = if c == 92 then char_escape_goes_on cs else is_plain 39 c && closes 39 cs

-- `"`, characters, and `"`
abbrev pub is_string : List ℕ → Bool
is_string [] = false
is_string (c ∷ cs) = c == 34 && string_goes_on cs

-- `'`, one character, and `'`
abbrev pub is_char : List ℕ → Bool
is_char [] = false
is_char (c ∷ cs) = c == 39 && char_goes_on cs

abbrev pub is_mark : List ℕ → Bool
is_mark [] = false
is_mark (c ∷ []) = is_mark_octet c
is_mark (c ∷ d ∷ []) = are_mark c d
is_mark (c ∷ d ∷ e ∷ cs) = false

-- octets of a kind
abbrev pub IsOf : PieceKind → List ℕ → Type 0
IsOf piece.Space octets = (length octets ≡ 1) × (is_space (slice_index octets 0) ≡ true)
IsOf piece.Comment octets = IsComment octets
IsOf (piece.Token token.Word) octets = IsRun is_letter octets
IsOf (piece.Token token.Number) octets = IsRun is_digit octets
IsOf (piece.Token token.Uuid) octets = IsUuid octets
IsOf (piece.Token token.Char) octets = is_char octets ≡ true
IsOf (piece.Token token.Str) octets = is_string octets ≡ true
IsOf (piece.Token token.Mark) octets = is_mark octets ≡ true

-- ## The values of numbers and characters

-- the value of a digit, decimal or hexadecimal, in either case
abbrev pub digit_value : ℕ → ℕ
digit_value c = if nat_le c 57 then c - 48 else (if nat_le c 70 then c - 55 else c - 87)

-- the value of digits to a base, after others that have a value so far
abbrev pub value_from : ℕ → ℕ → List ℕ → ℕ
value_from base so_far [] = so_far
value_from base so_far (c ∷ cs) = value_from base (so_far * base + digit_value c) cs

-- a value, where it is one of 64 bits
abbrev pub in_64_bits : ℕ → Option ℕ
in_64_bits n = if nat_lt n (2 ^ 64) then Some n else None

-- Digits, and nothing but digits. A decimal number of more than one digit does not begin with 0.
abbrev pub decimal_of : List ℕ → Option ℕ
decimal_of [] = None
decimal_of (c ∷ []) = if is_digit c then Some (digit_value c) else None
decimal_of (c ∷ d ∷ ds) = if list_all is_digit (c ∷ d ∷ ds) && not (c == 48) then in_64_bits (value_from 10 0 (c ∷ d ∷ ds)) else None

-- what follows `0x`: hexadecimal digits, at least one
abbrev pub hexadecimal_of : List ℕ → Option ℕ
hexadecimal_of [] = None
hexadecimal_of (d ∷ ds) = if list_all is_hex_digit (d ∷ ds) then in_64_bits (value_from 16 0 (d ∷ ds)) else None

-- `0x` or `0X`
abbrev pub begins_hexadecimal : ℕ → ℕ → Bool
begins_hexadecimal c x = c == 48 && (x == 120 || x == 88)

-- The value of a number: decimal without a leading zero, or `0x` or `0X` and hexadecimal digits, at most 2^64 - 1.
abbrev pub number_of : List ℕ → Option ℕ
number_of [] = None
number_of (c ∷ []) = decimal_of (c ∷ [])
number_of (c ∷ x ∷ xs) = if begins_hexadecimal c x then hexadecimal_of xs else decimal_of (c ∷ x ∷ xs)
