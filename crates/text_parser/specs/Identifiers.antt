-- UUIDs at the front of a text.
use Rattle.std.specs.Prelude.{◌≡◌, ℕ, Bool, true, ◌==◌, ◌&&◌, if◌then◌else◌, List, length, take, drop}
use Rattle.nd_base.specs.Text.{is_hex_digit, has_form, uuid_form}
use Rattle.std.specs.List.{list_all}
use Rattle.nd_value.specs.Misfit.{is_octet}
use Rattle.text_grammar.specs.Tokens.{uuid_octets}

-- an octet may be in a place of a form: a hyphen is itself, and in all other places are hexadecimal digits
abbrev pub fits_place : ℕ → ℕ → Bool
fits_place place c = if place == 45 then c == 45 else is_hex_digit c

-- octets of a form come first in a text, and the rest follows
pub record HasForm (form text rest : List ℕ) : Type 0 where
  pub is : has_form form (take (length form) text) ≡ true
  pub rest_is : rest ≡ drop (length form) text

-- a UUID comes first in a text, and the rest follows
pub record IsUuid (text id rest : List ℕ) : Type 0 where
  pub form : has_form uuid_form (take 36 text) ≡ true
  pub id_is : id ≡ uuid_octets (take 36 text)
  pub rest_is : rest ≡ drop 36 text

-- 16 octets
abbrev pub is_id : List ℕ → Bool
is_id id = length id == 16 && list_all is_octet id
