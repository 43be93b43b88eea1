-- A request or response without its security trailer (C706 13.2.6). The trailer and the padding before it are cut off; the header then states the
-- length that is left, and no authentication.
use Rattle.std.specs.Prelude.{ℕ, ◌+◌, ◌-◌, Bool, true, false, ◌==◌, nat_lt, List, [], ◌∷◌, ◌++◌, take, drop, slice_index}
use Rattle.nd_types.specs.Number.{spelling}
use Rattle.rpc_pdu.specs.declared.pdu.Wanted.{Wanted}
use Rattle.rpc_pdu.specs.Checks.{order_of, fragment_length, authentication_length, header_length}

-- Where the trailer begins. Its 8 octets are: the kind of authentication, the level, how many octets of padding, an octet without meaning, and the
-- security context (4). The authentication data follow it.
abbrev pub trailer_at : List ℕ → ℕ
trailer_at p = fragment_length p - (authentication_length p + 8)

abbrev pub level : List ℕ → ℕ
level p = slice_index p (trailer_at p + 1)

abbrev pub padding : List ℕ → ℕ
padding p = slice_index p (trailer_at p + 2)

-- where the stub data end
abbrev pub stub_end : List ℕ → ℕ
stub_end p = trailer_at p - padding p

-- header, padding and trailer do not fit in the PDU
abbrev pub has_no_room : Wanted → List ℕ → Bool
has_no_room want p = nat_lt (fragment_length p) (header_length want p + padding p + authentication_length p + 8)

-- the first octets of a PDU, this many, with a header that says so
abbrev pub shortened : List ℕ → ℕ → List ℕ
shortened p n = take 8 p ++ (spelling (order_of p) 2 n ++ (0 ∷ 0 ∷ drop 12 (take n p)))

-- what is left
pub data Bare : Type 0 where
  plain : List ℕ → Bare
  -- the stub data are encrypted: packet privacy, level 6
  sealed : Bare
  no_room : Bare

abbrev pub bare_by : Bool → Bool → Bool → List ℕ → List ℕ → Bare
bare_by true small private p cut = plain p
bare_by false true private p cut = no_room
bare_by false false true p cut = sealed
bare_by false false false p cut = plain cut

abbrev pub bare : Wanted → List ℕ → Bare
bare want p = bare_by (authentication_length p == 0) (has_no_room want p) (level p == 6) p (shortened p (stub_end p))
