-- What octets a step wants.
-- `w` is what the code says.
use Rattle.std.specs.Prelude.{◌≡◌, ◌<◌, ◌-◌, ◌^◌, min}
use Rattle.ndr_decoder_laws.specs.steps.Steps.{Want, no_octets, gap_of, item_of}
use Rattle.ndr_decoder_value.specs.declared.steps.Want as code
use Rattle.ndr_decoder_value.specs.declared.steps.Want.TheVariants as want

-- The octets that a step wants: none are an empty gap. More than a number of 32 bits can say are too many for a stream.
abbrev pub Wants : Want → code.Want → Type 0
Wants no_octets w = w ≡ want.Gap 0
Wants (gap_of n) w = w ≡ want.Gap n
Wants (item_of n) w = w ≡ want.Item (min n (2 ^ 32 - 1))

-- a gap has fewer than 256 octets
abbrev pub IsFewGap : code.Want → Type 0
IsFewGap (want.Gap n) = n < 256
IsFewGap (want.Item n) = Unit {0}
