-- A fault of a whole call is that of the stream.
use Rattle.std.proofs.Common.{ℕ, List, [], arith}
use Rattle.nd_base.specs.declared.octets.Order.{Order}
use Rattle.nd_base.specs.Over.{SourceOver}
use Rattle.nd_value.specs.declared.item.Item.{Item}
use Rattle.nd_value.specs.Setting.{Setting}
use Rattle.nd_grammar.specs.LegalSide.{IsLegalSide}
use Rattle.ndr_decoder_state.specs.declared.fault.DecodeFault.{DecodeFault}
use Rattle.ndr_decoder_state.specs.declared.fault.DecodeFault.TheVariants as fault
use Rattle.nd_grammar.specs.decoded.Verdict.{DecodingSeen, IsCutOff}
use Rattle.ndr_decoder_laws.specs.stream.Calls.{CutOff, TookPart}
use Rattle.ndr_decoder_laws.specs.stream.Report.{IsReported, the_stream}
use Rattle.ndr_decoder_laws.proofs.stream.Reports as law
use Rattle.ndr_decode.specs.Decoding.{IsFault, IsInOrder}
use Rattle.ndr_decode.specs.Streaming.{FaultOf}

pub reported_of : (source : SourceOver) (t : DecodingSeen) (octets : List ℕ) (items : List Item) (n : ℕ) → TookPart source t 0 octets items n → IsReported items n t
reported_of source t octets items n p = let e = p.steps in record { logged = p.logged; steps = omega (arith, e) }

cut_reported : (w : Setting) → IsLegalSide w → (order : Order) (source : SourceOver) (t : DecodingSeen) → CutOff the_stream w order [] [] 0 source t → IsCutOff w order source t
cut_reported w legal order source t x = law.cut_report w legal order source t x.octets x.items x.n' x.cut (reported_of source t x.octets x.items x.n' x.took) x.took.left

pub fault_reported : (w : Setting) → IsLegalSide w → (order : Order) (source : SourceOver) (t : DecodingSeen) (e : DecodeFault) → FaultOf the_stream w order [] [] 0 source t e
    → IsFault w order source e t
fault_reported w legal order source t (fault.Bad place why) x =
    law.refused_report w legal order source t x.octets x.items x.n' place why x.refused (reported_of source t x.octets x.items x.n' x.took) x.took.left x.ended x.none_left
fault_reported w legal order source t fault.ReadFault (x, risen) =
    law.unread_report w legal order source t x.octets x.items x.n' x.short (reported_of source t x.octets x.items x.n' x.took) x.took.left
fault_reported w legal order source t fault.Memory x = cut_reported w legal order source t x

pub in_order_reported : (w : Setting) → IsLegalSide w → (order : Order) (source : SourceOver) (t : DecodingSeen) (e : DecodeFault) → FaultOf the_stream w order [] [] 0 source t e
    → IsInOrder w order source e t
in_order_reported w legal order source t (fault.Bad place why) x =
    law.refused_in_order w legal order source t x.octets x.items x.n' place why x.refused (reported_of source t x.octets x.items x.n' x.took) x.took.left x.ended x.none_left
in_order_reported w legal order source t fault.ReadFault x = tt
in_order_reported w legal order source t fault.Memory x = tt
