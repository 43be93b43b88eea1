-- Faults that are handed on.
-- `e` is the fault, `r` what is answered.
use Rattle.std.proofs.Common.{◌≡◌, ℕ, List, ◌++◌, length, Option, Result, Ok, Err, IsErrAnd, sym, subst}
use Rattle.nd_base.specs.declared.octets.Order.{Order}
use Rattle.nd_base.specs.Over.{SourceOver}
use Rattle.nd_value.specs.declared.item.Item.{Item}
use Rattle.nd_value.specs.Setting.{Setting}
use Rattle.nd_grammar.specs.declared.reason.Reason.TheVariants as reason
use Rattle.nd_grammar.specs.LegalSide.{IsLegalSide}
use Rattle.ndr_decoder_state.specs.declared.fault.DecodeFault.{DecodeFault}
use Rattle.ndr_decoder_state.specs.declared.fault.DecodeFault.TheVariants as fault
use Rattle.ndr_decoder_state.specs.declared.machine.Owed.{Owed}
use Rattle.nd_grammar.specs.decoded.Verdict.{DecodingSeen}
use Rattle.ndr_decoder_laws.specs.stream.Calls.{CutOff}
use Rattle.ndr_decoder_stream.specs.declared.stream.Stream.{Stream}
use Rattle.ndr_decoder_laws.specs.stream.Report.{the_head, the_stream}
use Rattle.ndr_decoder_laws.proofs.stream.Heads.{cut_stream, refused_stream}
use Rattle.ndr_decode.specs.Streaming.{FaultOf, Reads, ReadsTaking}

-- what is right of a fault is right of the answer that hands it on
pub reads_fault : (w : Setting) (side : IsLegalSide w) (order : Order) (fetched : List ℕ) (noted : List Item) (cells n : ℕ) (source : SourceOver) (t : DecodingSeen) (y : Stream)
    (r : Result (Unit {0}) DecodeFault) (e : DecodeFault) → IsErrAnd r (λ z. z ≡ e) → FaultOf the_head w order fetched noted cells source t e → Reads w side order fetched noted cells n source t y r
reads_fault w side order fetched noted cells n source t y (Ok u) e is x = absurd is
reads_fault w side order fetched noted cells n source t y (Err z) e is x = subst (λ (f : DecodeFault). FaultOf the_head w order fetched noted cells source t f) (sym is) x

pub taking_fault : (w : Setting) (side : IsLegalSide w) (order : Order) (fetched : List ℕ) (noted : List Item) (cells n : ℕ) (source : SourceOver) (t : DecodingSeen) (y : Stream)
    (r : Result (Option Owed) DecodeFault) (e : DecodeFault) → IsErrAnd r (λ z. z ≡ e) → FaultOf the_head w order fetched noted cells source t e
    → ReadsTaking w side order fetched noted cells n source t y r
taking_fault w side order fetched noted cells n source t y (Ok q) e is x = absurd is
taking_fault w side order fetched noted cells n source t y (Err z) e is x = subst (λ (f : DecodeFault). FaultOf the_head w order fetched noted cells source t f) (sym is) x

-- out of memory, where reading was cut off
pub memory_fault : (w : Setting) (order : Order) (fetched : List ℕ) (noted : List Item) (cells : ℕ) (source : SourceOver) (t : DecodingSeen) (e : DecodeFault) → e ≡ fault.Memory
    → CutOff the_head w order fetched noted cells source t → FaultOf the_head w order fetched noted cells source t e
memory_fault w order fetched noted cells source t e is cut = subst (λ (f : DecodeFault). FaultOf the_head w order fetched noted cells source t f) (sym is) cut

-- a fault of the head is one of the stream
pub stream_fault : (w : Setting) (order : Order) (fetched : List ℕ) (noted : List Item) (cells : ℕ) (source : SourceOver) (t : DecodingSeen) (e : DecodeFault)
    → FaultOf the_head w order fetched noted cells source t e → FaultOf the_stream w order fetched noted cells source t e
stream_fault w order fetched noted cells source t (fault.Bad place why) x = record {
  octets = x.octets;
  items = x.items;
  n' = x.n';
  refused = refused_stream w order (fetched ++ x.octets) the_head (noted ++ x.items) x.n' place why x.refused;
  took = x.took;
  ended = x.ended;
  none_left = x.none_left;
}
stream_fault w order fetched noted cells source t fault.ReadFault (x, risen) = (
  record {
    octets = x.octets;
    items = x.items;
    n' = x.n';
    short = refused_stream w order (fetched ++ x.octets) the_head (noted ++ x.items) x.n' (length (fetched ++ x.octets)) reason.Truncated x.short;
    took = x.took;
  },
  risen,
)
stream_fault w order fetched noted cells source t fault.Memory x =
    record { octets = x.octets; items = x.items; n' = x.n'; cut = cut_stream w order (fetched ++ x.octets) the_head (noted ++ x.items) x.n' x.cut; took = x.took }
