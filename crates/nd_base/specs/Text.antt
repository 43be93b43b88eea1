-- Classes of octets, hexadecimal digits, and lines and columns of a text.
use Rattle.std.specs.Prelude.{ℕ, ◌+◌, ◌-◌, Bool, true, false, ◌==◌, nat_le, ◌&&◌, ◌||◌, if◌then◌else◌, List, [], ◌∷◌, ◌++◌, length, take, codes}
use Rattle.std.specs.List.{list_all}

-- ## Classes of octets

abbrev pub is_digit : ℕ → Bool
is_digit c = nat_le 48 c && nat_le c 57

-- a letter or `_`
abbrev pub is_letter : ℕ → Bool
is_letter c = (nat_le 65 c && nat_le c 90) || ((nat_le 97 c && nat_le c 122) || c == 95)

-- a letter, a digit or `_`
abbrev pub is_word_octet : ℕ → Bool
is_word_octet c = is_letter c || is_digit c

-- a letter or `_`, then letters, digits and `_`
abbrev pub is_word : List ℕ → Bool
is_word [] = false
is_word (c ∷ cs) = is_letter c && list_all is_word_octet cs

-- an identifier of the language: a word of 1 to 31 octets
abbrev pub is_identifier : List ℕ → Bool
is_identifier name = is_word name && nat_le (length name) 31

-- ## Hexadecimal digits

-- a digit, or a letter from a to f in either case
abbrev pub is_hex_digit : ℕ → Bool
is_hex_digit c = is_digit c || ((nat_le 65 c && nat_le c 70) || (nat_le 97 c && nat_le c 102))

-- the value of a hexadecimal digit in either case
abbrev pub hex_value : ℕ → ℕ
hex_value c = if is_digit c then c - 48 else (if nat_le c 70 then c - 55 else c - 87)

-- the hexadecimal digit of a number below 16, in lower case
abbrev pub hex_digit : ℕ → ℕ
hex_digit n = if nat_le n 9 then 48 + n else 87 + n

-- ## UUIDs

-- the form of a UUID: each d is any hexadecimal digit, and a hyphen is itself
abbrev pub uuid_form : List ℕ
uuid_form = codes "dddddddd-dddd-dddd-dddd-dddddddddddd"

abbrev pub has_form : List ℕ → List ℕ → Bool
has_form [] [] = true
has_form [] (c ∷ cs) = false
has_form (place ∷ form) [] = false
has_form (place ∷ form) (c ∷ cs) = (if place == 45 then c == 45 else is_hex_digit c) && has_form form cs

-- ## Pieces

-- pieces of text, one after the other
abbrev pub joined : List (List ℕ) → List ℕ
joined [] = []
joined (piece ∷ pieces) = piece ++ joined pieces

-- ## Lines and columns

-- line and column after octets, from those before them: a line feed begins a line
abbrev pub position : ℕ → ℕ → List ℕ → ℕ × ℕ
position line column [] = (line, column)
position line column (c ∷ cs) = if c == 10 then position (line + 1) 1 cs else position line (column + 1) cs

-- line and column of a place, both from 1
abbrev pub position_of : List ℕ → ℕ → ℕ × ℕ
position_of text place = position 1 1 (take place text)
