-- The PDUs of a stream (C706 12.6.3.1). Each begins with a header of 16 octets, which states how many octets the PDU has.
use Rattle.std.specs.Prelude.{◌≡◌, ℕ, ◌+◌, ◌-◌, ◌*◌, ◌≤◌, Bool, true, false, not, ◌&&◌, ◌==◌, nat_lt, List, [], ◌∷◌, ◌++◌, length, take, slice_index}
use Rattle.rpc_stream.specs.declared.stated.First.{First}
use Rattle.rpc_stream.specs.declared.stated.First.TheVariants.{Waiting, Whole, Wrong}
use Rattle.rpc_stream.specs.declared.stated.StreamReason.{StreamReason}
use Rattle.rpc_stream.specs.declared.stated.StreamReason.TheVariants as why

-- ## What octets begin with

-- an unsigned short, in little-endian order or not
abbrev pub short_by : Bool → ℕ → ℕ → ℕ
short_by true a b = b * 256 + a
short_by false a b = a * 256 + b

-- an unsigned long
abbrev pub long_by : Bool → ℕ → ℕ → ℕ → ℕ → ℕ
long_by true a b c d = ((d * 256 + c) * 256 + b) * 256 + a
long_by false a b c d = ((a * 256 + b) * 256 + c) * 256 + d

-- the first octet of a format label that states neither order of octets, or other characters than ASCII
abbrev pub is_no_label : ℕ → Bool
is_no_label octet = not (octet == 0) && not (octet == 16)

abbrev pub is_little : List ℕ → Bool
is_little os = slice_index os 4 == 16

-- how many octets the PDU has
abbrev pub fragment_length : List ℕ → ℕ
fragment_length os = short_by (is_little os) (slice_index os 8) (slice_index os 9)

-- the call id
abbrev pub call_of : List ℕ → ℕ
call_of os = long_by (is_little os) (slice_index os 12) (slice_index os 13) (slice_index os 14) (slice_index os 15)

-- by the first of these tests that is true: fewer than 16 octets, another version, no label, a length of less than 16, fewer octets than the length
abbrev pub first_by : Bool → Bool → Bool → Bool → Bool → ℕ → First
first_by short version label small few n =
    elim short [
      | true ↦ Waiting
      | false ↦ elim version [
        | true ↦ Wrong 0 why.Version
        | false ↦ elim label [
          | true ↦ Wrong 4 why.Label
          | false ↦ elim small [
            | true ↦ Wrong 8 why.Length
            | false ↦ elim few [ true ↦ Waiting | false ↦ Whole n ]
          ]
        ]
      ]
    ]

abbrev pub first_of : List ℕ → First
first_of os =
    first_by (nat_lt (length os) 16) (not (slice_index os 0 == 5)) (is_no_label (slice_index os 4)) (nat_lt (fragment_length os) 16)
    (nat_lt (length os) (fragment_length os)) (fragment_length os)

-- ## A stream

-- octets that are one PDU
abbrev pub IsPdu : List ℕ → Type 0
IsPdu os = first_of os ≡ Whole (length os)

abbrev pub AllPdus : List (List ℕ) → Type 0
AllPdus [] = Unit {0}
AllPdus (p ∷ ps) = IsPdu p × AllPdus ps

-- octets that do not begin with a PDU
abbrev pub IsRest : List ℕ → Type 0
IsRest os = (n : ℕ) → first_of os ≡ Whole n → ⊥

-- lists end to end
abbrev pub joined : List (List ℕ) → List ℕ
joined [] = []
joined (p ∷ ps) = p ++ joined ps

-- A stream is these PDUs, and then a rest that begins with none: a part of one, or what is refused.
pub record Cut (stream : List ℕ) (pdus : List (List ℕ)) (rest : List ℕ) : Type 0 where
  pub whole : stream ≡ joined pdus ++ rest
  pub each : AllPdus pdus
  pub rest_is : IsRest rest

-- The pieces of a stream were taken one after the other, each after the rest of those before it: these PDUs were cut off, and this is left.
pub data Fed : List (List ℕ) → List (List ℕ) → List ℕ → Type 0 where
  none_fed : Fed [] [] []
  fed_more : (pieces pdus : List (List ℕ)) (rest piece : List ℕ) (others : List (List ℕ)) (left : List ℕ)
      → Fed pieces pdus rest → Cut (rest ++ piece) others left → Fed (pieces ++ (piece ∷ [])) (pdus ++ others) left

-- ## What a cutter takes

-- how many octets are missing from the PDU, as far as these say
abbrev pub lacking_by : Bool → ℕ → ℕ → ℕ
lacking_by true have wide = 16 - have
lacking_by false have wide = wide - have

abbrev pub lacking_of : List ℕ → ℕ
lacking_of os = lacking_by (nat_lt (length os) 16) (length os) (fragment_length os)

-- so many octets were taken from the front of a piece: all of it, or what was missing from the PDU
pub record IsTaken (old piece : List ℕ) (taken : ℕ) (new : List ℕ) : Type 0 where
  pub within : taken ≤ length piece
  pub new_is : new ≡ old ++ take taken piece
  pub enough : taken ≤ lacking_of old
  pub all : taken + 1 ≤ lacking_of old → taken ≡ length piece
