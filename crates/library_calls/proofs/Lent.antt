-- What is joined of octets that are lent.
use Rattle.std.proofs.Common.{◌≡◌, ℕ, List, [], Some, subst}
use Rattle.nd_base.specs.Over.{SourceOver}
use Rattle.nd_base.proofs.Consumed.{rest_of, parts_of}
use Rattle.rpc_pdu.specs.declared.pdu.Joined.{Joined}
use Rattle.rpc_pdu.specs.declared.pdu.Wanted.{Wanted}
use Rattle.rpc_pdu.specs.declared.pdu.PduFault.{PduFault}
use Rattle.rpc_pdu.specs.declared.pdu.PduFault.TheVariants as fault
use Rattle.rpc_pdu.specs.declared.pdu.PduReason.{PduReason}
use Rattle.rpc_pdu.specs.Fragments.{BadPdu, IsJoined, IsJoinCause}
use Rattle.rpc_pdu.proofs.KnownOctets.{known_bad}
use Rattle.library_calls.specs.Fragments.{IsJoinedOf}

pub joined_is : (want : Wanted) (octets : List ℕ) (s : SourceOver) (j : Joined) → s.left ≡ Some octets → IsJoined want s j → IsJoinedOf want octets j
joined_is want octets s j lent h = record {
  front = h.octets;
  rest = rest_of s.left_now;
  parts = parts_of s.left s.left_now h.octets octets lent h.taken;
  taken_is = h.count;
  fragments = h.fragments;
}

pub refused_is : (want : Wanted) (octets : List ℕ) (s : SourceOver) (e : PduFault) (place : ℕ) (why : PduReason) → s.left ≡ Some octets
    → e ≡ fault.Bad place why → IsJoinCause want s e → BadPdu want octets place why
refused_is want octets s e place why lent is h = known_bad want s place why (subst (λ (x : PduFault). IsJoinCause want s x) is h) octets lent
