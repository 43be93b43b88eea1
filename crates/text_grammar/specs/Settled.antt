-- Where a text is read on in the middle: its version is known, and no UUID is due.
-- `v` is a version, `t` a token, `before` are the tokens before, the last first.
use Rattle.std.specs.Prelude.{◌≡◌, ℤ, Bool, true, false, not, ◌==◌, List, ◌∷◌}
use Rattle.text_grammar.specs.declared.version.Version.{Version}
use Rattle.text_grammar.specs.Tokens.{Token, Word, Number, Cell, Str, Bytes, Letters, Uuid, Mark, uuid_due, cutting}
use Rattle.text_grammar.specs.Written.{has_bytes, has_letter_lists}

-- no UUID is due after these tokens, nor with a comma more, nor with a number and a comma more
pub record IsCalm (before : List Token) : Type 0 where
  pub now : uuid_due before ≡ false
  pub comma : uuid_due (Mark 44 ∷ before) ≡ false
  pub number : (z : ℤ) → uuid_due (Mark 44 ∷ Number z ∷ before) ≡ false

-- at least two tokens
abbrev pub has_two : List Token → Bool
has_two (t ∷ u ∷ before) = true
has_two before = false

-- the version was read, and no UUID is due
pub record IsSettled (v : Version) (before : List Token) : Type 0 where
  pub many : has_two before ≡ true
  pub bytes : (cutting before).bytes ≡ has_bytes v
  pub letters : (cutting before).letters ≡ has_letter_lists v
  pub calm : IsCalm before

-- neither a UUID nor the parenthesis that may come before one
abbrev pub is_simple : Token → Bool
is_simple (Word octets) = true
is_simple (Number z) = true
is_simple (Cell c) = true
is_simple (Str octets) = true
is_simple (Bytes octets) = true
is_simple (Letters units) = true
is_simple (Uuid id) = false
is_simple (Mark m) = not (m == 40)
