-- What octets of a side are decoded to, what is encoded, and why either is refused.
-- `operation`, `side` and `order` are numbers, `q` is the request of a response.
use Rattle.std.specs.Prelude.{◌≡◌, ℕ, List, Some, None, slice_get}
use Rattle.nd_types.specs.declared.interface.Interface.{Interface}
use Rattle.nd_types.specs.declared.types.Operation.{Operation}
use Rattle.nd_types.specs.declared.types.Side.TheVariants.{Out}
use Rattle.nd_value.specs.Fitting.{Fitting, setting_beside}
use Rattle.command_refusals.specs.declared.refusal.Refusal.{Refusal}
use Rattle.command_refusals.specs.declared.refusal.Refusal.TheVariants.{Memory}
use Rattle.library_values.specs.Decoded.{IsDecodedOf, IsOctetsCause, IsOf}
use Rattle.library_values.specs.Encoded.{IsWritten, IsShort, IsEncodeCause}
use Rattle.library_answers.specs.Answers.{OfSide, OfOrder}

-- so many octets at the front are decoded to the values, which are of that side, beside no request
abbrev pub IsDecode : Interface → ℕ → ℕ → ℕ → List ℕ → ℕ → Fitting → Type 0
IsDecode i operation side order octets taken v =
    OfSide i operation side
    (λ o s. OfOrder order (λ r. IsDecodedOf (setting_beside i o s None) r octets taken v.graph × IsOf i operation s None v))

-- the octets are refused as those of that side, and memory is not the reason
abbrev pub IsDecodeRefusal : Interface → ℕ → ℕ → ℕ → List ℕ → Refusal → Type 0
IsDecodeRefusal i operation side order octets e =
    (e ≡ Memory → ⊥) × OfSide i operation side (λ o s. OfOrder order (λ r. IsOctetsCause (setting_beside i o s None) r octets e))

-- so many octets at the front are decoded to the values, which are of the response to the request
abbrev pub IsResponse : Fitting → ℕ → List ℕ → ℕ → Fitting → Type 0
IsResponse q order octets taken v =
    OfOrder order
    (λ r. ((o : Operation) → slice_get q.interface.operations q.op ≡ Some o
    → IsDecodedOf (setting_beside q.interface o Out (Some q.graph)) r octets taken v.graph)
    × IsOf q.interface q.op Out (Some q.graph) v)

-- the octets are refused as those of the response to the request, and memory is not the reason
abbrev pub IsResponseRefusal : Fitting → ℕ → List ℕ → Refusal → Type 0
IsResponseRefusal q order octets e =
    (e ≡ Memory → ⊥)
    × OfOrder order
    (λ r. (o : Operation) → slice_get q.interface.operations q.op ≡ Some o
    → IsOctetsCause (setting_beside q.interface o Out (Some q.graph)) r octets e)

-- the octets that are chosen for the values are at the front of the buffer, so many
abbrev pub IsEncode : Fitting → ℕ → ℕ → List ℕ → List ℕ → ℕ → Type 0
IsEncode v order chunk old new many = OfOrder order (λ r. IsWritten v r chunk old new many)

-- so many octets are chosen for the values, and the buffer, which is as it was, has less room
abbrev pub IsNoRoom : Fitting → ℕ → List ℕ → List ℕ → ℕ → Type 0
IsNoRoom v chunk old new many = IsShort v chunk old new many

-- the values are refused, and memory is not the reason
abbrev pub IsEncodeRefusal : Fitting → ℕ → Refusal → Type 0
IsEncodeRefusal v chunk e = (e ≡ Memory → ⊥) × IsEncodeCause v chunk e
