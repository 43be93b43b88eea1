-- What fetching the gap and the count of a chunk comes to.
-- `at` is the place in the stream, `s` the source over the call, `os` are the octets that came.
use Rattle.std.specs.Prelude.{◌≡◌, ◌≤◌, ◌<◌, ℕ, ◌+◌, true, List, [], length, Result, Ok, Err}
use Rattle.std.specs.Io.KnownBytes.{IsAtEnd}
use Rattle.nd_base.specs.declared.TheConstants.{STREAM_LIMIT}
use Rattle.nd_base.specs.Over.{SourceOver, HasRisen}
use Rattle.nd_grammar.specs.declared.reason.Reason.{Reason}
use Rattle.nd_grammar.specs.declared.reason.Reason.TheVariants as reason
use Rattle.nd_grammar.specs.Entry.{gap}
use Rattle.nd_base.specs.declared.intake.IntakeFault.{IntakeFault}
use Rattle.nd_base.specs.declared.intake.IntakeFault.TheVariants as intake
use Rattle.ndr_decoder_state.specs.declared.fault.DecodeFault.{DecodeFault}
use Rattle.ndr_decoder_state.specs.declared.fault.DecodeFault.TheVariants as fault

-- what a fault of the intake says of a stream
abbrev pub stream_answer : Result (Unit {0}) IntakeFault → Result (Unit {0}) DecodeFault
stream_answer (Ok u) = Ok u
stream_answer (Err intake.Memory) = Err fault.Memory
stream_answer (Err intake.ReadFault) = Err fault.ReadFault
stream_answer (Err intake.TooLong) = Err (fault.Bad STREAM_LIMIT reason.TooLong)
stream_answer (Err (intake.Truncated place)) = Err (fault.Bad place reason.Truncated)

-- the source has ended before so many octets came
abbrev pub IsShort : ℕ → ℕ → SourceOver → List ℕ → ℕ → Type 0
IsShort count at s os place = (length os < count) × (place ≡ at + length os) × (s.ended_now ≡ true) × IsAtEnd s.left_now

abbrev pub GapBad : ℕ → SourceOver → List ℕ → ℕ → Reason → Type 0
GapBad at s os place reason.Truncated = IsShort (gap at 4) at s os place
GapBad at s os place why = ⊥

abbrev pub GapCame : ℕ → SourceOver → List ℕ → Result (Unit {0}) DecodeFault → Type 0
GapCame at s os (Ok u) = length os ≡ gap at 4
GapCame at s os (Err (fault.Bad place why)) = GapBad at s os place why
GapCame at s os (Err fault.ReadFault) = (length os < gap at 4) × HasRisen s.faults
GapCame at s os (Err fault.Memory) = Unit {0}

abbrev pub CountBad : ℕ → SourceOver → List ℕ → ℕ → Reason → Type 0
CountBad at s os place reason.TooLong = (STREAM_LIMIT < at + 4) × (os ≡ []) × (place ≡ STREAM_LIMIT)
CountBad at s os place reason.Truncated = (at + 4 ≤ STREAM_LIMIT) × IsShort 4 at s os place
CountBad at s os place why = ⊥

abbrev pub CountCame : ℕ → SourceOver → List ℕ → Result (Unit {0}) DecodeFault → Type 0
CountCame at s os (Ok u) = (length os ≡ 4) × (at + 4 ≤ STREAM_LIMIT)
CountCame at s os (Err (fault.Bad place why)) = CountBad at s os place why
CountCame at s os (Err fault.ReadFault) = (at + 4 ≤ STREAM_LIMIT) × (length os < 4) × HasRisen s.faults
CountCame at s os (Err fault.Memory) = Unit {0}
