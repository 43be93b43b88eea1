-- What a fault of steps that are taken in one go says of a stream.
use Rattle.std.specs.Prelude.{ℕ, Option, Some, None}
use Rattle.nd_grammar.specs.declared.reason.Reason.{Reason}
use Rattle.nd_grammar.specs.declared.reason.Reason.TheVariants as reason
use Rattle.ndr_decoder_state.specs.declared.fault.DecodeFault.{DecodeFault}
use Rattle.ndr_decoder_state.specs.declared.fault.DecodeFault.TheVariants as fault
use Rattle.ndr_decoder_fast.specs.declared.fault.LeapFault.{LeapFault}
use Rattle.ndr_decoder_fast.specs.declared.fault.LeapFault.TheVariants as leap
use Rattle.ndr_decoder_fast.specs.declared.fault.TextReason.{TextReason}
use Rattle.ndr_decoder_fast.specs.declared.fault.TextReason.TheVariants as why

-- the reason of this name
abbrev pub reason_of : TextReason → Reason
reason_of why.PastBound = reason.PastBound
reason_of why.TextOffset = reason.TextOffset
reason_of why.TextEmpty = reason.TextEmpty
reason_of why.TextUnended = reason.TextUnended
reason_of why.TextZero = reason.TextZero

abbrev pub fault_of : LeapFault → DecodeFault
fault_of leap.Memory = fault.Memory
fault_of (leap.Bad place w) = fault.Bad place (reason_of w)

-- where a string is refused, and why
abbrev pub refusal_of : Option (ℕ × TextReason) → Option (ℕ × Reason)
refusal_of (Some x) = Some (x.0, reason_of x.1)
refusal_of None = None
