-- What a buffer got, from what the encoder answers.
use Rattle.std.proofs.Common.{◌≡◌, ℕ, ◌≤◌, ◌<◌, List, length, take, drop, sym, subst}
use Rattle.nd_base.specs.declared.octets.Order.{Order}
use Rattle.nd_value.specs.Fitting.{Fitting}
use Rattle.ndr_encode.specs.Work.{WorkSeen, HasLength, IsChosen, IsWorkFor}
use Rattle.library_values.specs.Encoded.{IsEncoded}
use Rattle.library_values.specs.declared.encoding.Encoded.TheVariants.{Written, Short}

-- the octets that a work writes are at the front of the buffer, and the rest of it is as it was
pub written_is : (f : Fitting) (order : Order) (chunk : ℕ) (work : WorkSeen) (octets old new : List ℕ) (many : ℕ) → IsWorkFor f chunk work → HasLength f chunk many
    → many ≤ length old → IsChosen f order work.chunk octets → take many new ≡ octets → drop many new ≡ drop many old
    → IsEncoded f order chunk old new (Written many)
written_is f order chunk work octets old new many made long room chosen front rest = record {
  has_length = long;
  room = room;
  chosen = subst (λ (os : List ℕ). IsChosen f order chunk os) (sym front) (subst (λ (n : ℕ). IsChosen f order n octets) made.chunk chosen);
  rest = rest;
}

pub short_is : (f : Fitting) (order : Order) (chunk : ℕ) (old new : List ℕ) (many : ℕ) → HasLength f chunk many → length old < many → new ≡ old
    → IsEncoded f order chunk old new (Short many)
short_is f order chunk old new many long no_room same = record { has_length = long; no_room = no_room; same = same }
