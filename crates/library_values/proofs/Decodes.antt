-- What a decoder answers of octets that are lent.
use Rattle.std.proofs.Common.{◌≡◌, ℕ, List, [], Some, sym, subst}
use Rattle.nd_base.specs.declared.octets.Order.{Order}
use Rattle.nd_base.specs.Over.{SourceOver}
use Rattle.nd_base.proofs.Consumed.{rest_of, parts_of, none_left}
use Rattle.nd_value.specs.declared.value.Graph.{Graph}
use Rattle.nd_value.specs.Setting.{Setting}
use Rattle.nd_grammar.specs.declared.reason.Reason.{Reason}
use Rattle.nd_grammar.specs.Refusal.{Bad}
use Rattle.nd_grammar.specs.decoded.Verdict.{DecodingSeen, IsDecoded, IsRefused}
use Rattle.nd_grammar.proofs.Following.{may_follow}
use Rattle.ndr_decode.specs.Decoding.{IsFault}
use Rattle.ndr_decoder_state.specs.declared.fault.DecodeFault.{DecodeFault}
use Rattle.ndr_decoder_state.specs.declared.fault.DecodeFault.TheVariants as fault
use Rattle.library_values.specs.Decoded.{IsDecodedOf}

module _ (w : Setting) (order : Order) (octets : List ℕ) (s : SourceOver) (t : DecodingSeen) (lent : s.left ≡ Some octets) where
  pub decoded_is : (taken : ℕ) (g : Graph) → IsDecoded w order s taken g t → IsDecodedOf w order octets taken g
  decoded_is taken g d = record {
    front = d.fetched;
    rest = rest_of s.left_now;
    parts = parts_of s.left s.left_now d.fetched octets lent d.left;
    taken_is = d.taken_is;
    graph = d.graph;
  }

  refused_is : (place : ℕ) (why : Reason) → IsRefused w order s place why t → Bad w order octets place why
  refused_is place why r =
      subst (λ (os : List ℕ). Bad w order os place why) (sym (parts_of s.left s.left_now r.fetched octets lent r.left))
      (r.stays (rest_of s.left_now) (may_follow why (rest_of s.left_now) (λ e. none_left s.left_now (r.none_left e))))

  pub fault_is : (e : DecodeFault) (place : ℕ) (why : Reason) → e ≡ fault.Bad place why → IsFault w order s e t → Bad w order octets place why
  fault_is e place why is h = refused_is place why (subst (λ (x : DecodeFault). IsFault w order s x t) is h)
