-- What is answered of octets, from what the calls below answer.
use Rattle.std.proofs.Common.{◌≡◌, ℕ, ◌<◌, List, length, take, Option, Some, None, IsSomeAnd, refl, sym, subst}
use Rattle.std.specs.List.{slice_get}
use Rattle.nd_base.specs.declared.octets.Order.{Order}
use Rattle.nd_types.specs.declared.interface.Interface.{Interface}
use Rattle.nd_types.specs.declared.types.Operation.{Operation}
use Rattle.nd_types.specs.declared.types.Side.{Side}
use Rattle.nd_types.specs.declared.types.Side.TheVariants.{Out}
use Rattle.nd_value.specs.Fitting.{Fitting, setting_beside}
use Rattle.command_refusals.specs.declared.refusal.Refusal.{Refusal}
use Rattle.command_refusals.specs.declared.refusal.Refusal.TheVariants.{Memory}
use Rattle.library_handles.specs.declared.held.Held.{Held}
use Rattle.library_values.specs.Decoded.{IsDecodedOf, IsOctetsCause, IsOf}
use Rattle.library_values.specs.Encoded.{IsWritten, IsEncodeCause}
use Rattle.library_answers.specs.Answers.{side_numbered, order_numbered, values_in, refusal_in}
use Rattle.library_answers.specs.Octets.{IsDecode, IsDecodeRefusal, IsResponse, IsResponseRefusal, IsEncode, IsEncodeRefusal}
use Rattle.library_answers.proofs.Numbered.{there_and, of_side, of_order, no_stream_side, no_stream_order, no_stream_operation, stream_there, order_is}
use Rattle.library_answers.proofs.Logs.{items_are, response_items_are}

pub decode_is : (i : Interface) (operation side order : ℕ) (octets : List ℕ) (s : Side) (r : Order) (made : Fitting) (count taken : ℕ) (held : Option Held)
    → operation < length i.operations → Some s ≡ side_numbered side → Some r ≡ order_numbered order
    → ((o : Operation) → slice_get i.operations operation ≡ Some o → IsDecodedOf (setting_beside i o s None) r octets count made.graph)
    → IsOf i operation s None made → taken ≡ count → values_in held ≡ Some made
    → IsSomeAnd (values_in held) (λ v. IsDecode i operation side order octets taken v)
decode_is i operation side order octets s r made count taken held low side_is order_is decoded of many filled =
    there_and (values_in held) made (λ v. IsDecode i operation side order octets taken v) filled
    (subst (λ n. IsDecode i operation side order octets n made) (sym many)
    (of_side i operation side s _ low side_is (λ o there. of_order order r _ order_is (decoded o there, of))))

pub decode_refused : (i : Interface) (operation side order : ℕ) (octets : List ℕ) (s : Side) (r : Order) (e : Refusal) (held : Option Held)
    → operation < length i.operations → Some s ≡ side_numbered side → Some r ≡ order_numbered order
    → ((o : Operation) → slice_get i.operations operation ≡ Some o → IsOctetsCause (setting_beside i o s None) r octets e) → (e ≡ Memory → ⊥)
    → refusal_in held ≡ Some e → IsSomeAnd (refusal_in held) (λ x. IsDecodeRefusal i operation side order octets x)
decode_refused i operation side order octets s r e held low side_is order_is cause reason filled =
    there_and (refusal_in held) e (λ x. IsDecodeRefusal i operation side order octets x) filled
    (reason, of_side i operation side s _ low side_is (λ o there. of_order order r _ order_is (cause o there)))

pub response_is : (q : Fitting) (order : ℕ) (octets : List ℕ) (r : Order) (made : Fitting) (count taken : ℕ) (held : Option Held) → Some r ≡ order_numbered order
    → ((o : Operation) → slice_get q.interface.operations q.op ≡ Some o → IsDecodedOf (setting_beside q.interface o Out (Some q.graph)) r octets count made.graph)
    → IsOf q.interface q.op Out (Some q.graph) made → taken ≡ count → values_in held ≡ Some made
    → IsSomeAnd (values_in held) (λ v. IsResponse q order octets taken v)
response_is q order octets r made count taken held order_is decoded of many filled =
    there_and (values_in held) made (λ v. IsResponse q order octets taken v) filled
    (subst (λ n. IsResponse q order octets n made) (sym many) (of_order order r _ order_is (decoded, of)))

pub response_refused : (q : Fitting) (order : ℕ) (octets : List ℕ) (r : Order) (e : Refusal) (held : Option Held) → Some r ≡ order_numbered order
    → ((o : Operation) → slice_get q.interface.operations q.op ≡ Some o → IsOctetsCause (setting_beside q.interface o Out (Some q.graph)) r octets e)
    → (e ≡ Memory → ⊥) → refusal_in held ≡ Some e → IsSomeAnd (refusal_in held) (λ x. IsResponseRefusal q order octets x)
response_refused q order octets r e held order_is cause reason filled =
    there_and (refusal_in held) e (λ x. IsResponseRefusal q order octets x) filled (reason, of_order order r _ order_is cause)

pub encode_is : (v : Fitting) (order chunk : ℕ) (old new : List ℕ) (r : Order) (count many : ℕ) → Some r ≡ order_numbered order → IsWritten v r chunk old new count
    → many ≡ count → IsEncode v order chunk old new many
encode_is v order chunk old new r count many order_is written same =
    subst (λ n. IsEncode v order chunk old new n) (sym same) (of_order order r _ order_is written)

pub encode_refused : (v : Fitting) (chunk : ℕ) (e : Refusal) (held : Option Held) → IsEncodeCause v chunk e → (e ≡ Memory → ⊥) → refusal_in held ≡ Some e
    → IsSomeAnd (refusal_in held) (λ x. IsEncodeRefusal v chunk x)
encode_refused v chunk e held cause reason filled = there_and (refusal_in held) e (λ x. IsEncodeRefusal v chunk x) filled (reason, cause)

-- what functions that decode, and keep the items too, name
pub ruleset decodes_both = (no_stream_side, no_stream_order, no_stream_operation, stream_there, decode_is, items_are, decode_refused)

pub ruleset responses_both = (order_is, response_is, response_items_are, response_refused)
