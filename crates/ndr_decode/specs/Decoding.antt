-- What the faults of a decoder say.
use Rattle.nd_base.specs.declared.octets.Order.{Order}
use Rattle.nd_base.specs.Over.{SourceOver}
use Rattle.nd_value.specs.Setting.{Setting}
use Rattle.ndr_decoder_state.specs.declared.fault.DecodeFault.{DecodeFault}
use Rattle.ndr_decoder_state.specs.declared.fault.DecodeFault.TheVariants as fault
use Rattle.nd_grammar.specs.decoded.Verdict.{DecodingSeen, IsRefused, IsCutOff, IsUnread}
use Rattle.ndr_decoder_laws.specs.verdict.InOrder.{IsRefusedInOrder}

abbrev pub IsFault : Setting → Order → SourceOver → DecodeFault → DecodingSeen → Type 0
IsFault w order s (fault.Bad place why) t = IsRefused w order s place why t
IsFault w order s fault.ReadFault t = IsUnread w order s t
IsFault w order s fault.Memory t = IsCutOff w order s t

-- At a refusal the cells of the graph so far are numbered in the order in which its stream comes to them.
abbrev pub IsInOrder : Setting → Order → SourceOver → DecodeFault → DecodingSeen → Type 0
IsInOrder w order s (fault.Bad place why) t = IsRefusedInOrder w order s place why t
IsInOrder w order s _ t = Unit {0}
