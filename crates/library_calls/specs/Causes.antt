-- What is refused, where, and the numbers that are wanted and found. What a refusal does not have is 0.
use Rattle.std.specs.Prelude.{◌≡◌, ℕ}
use Rattle.std.specs.Int.{w128, cast_unsigned}
use Rattle.nd_base.specs.declared.TheConstants.{STREAM_LIMIT}
use Rattle.nd_value.specs.declared.misfit.MisfitReason.TheVariants as misfit
use Rattle.nd_grammar.specs.declared.reason.Reason.TheVariants as reason
use Rattle.command_refusals.specs.declared.refusal.Refusal.{Refusal}
use Rattle.command_refusals.specs.declared.refusal.Refusal.TheVariants.{Absent, BadIdl, BadOctets, BadText, BadValue, TooLong}
use Rattle.command_refusals.specs.declared.refusal.Refusal.TheVariants.{BadPdu, BadLabel, ShortLabel, NotCompatible}
use Rattle.command_refusals.specs.declared.refusal.CompatFault.TheVariants.{OtherMajor, OlderMinor, Fewer}
use Rattle.command_refusals.specs.declared.refusal.OctetsFault.TheVariants.{Refused}
use Rattle.library_calls.specs.Halves.{joined_halves}
use Rattle.library_calls.specs.declared.causes.Cause.{Cause}
use Rattle.library_calls.specs.Reasons.{reason_of, rule_of}

abbrev pub kind_of : Refusal → ℕ
kind_of (Absent file) = 1
kind_of (BadIdl file line column why) = 2
kind_of (BadOctets place why) = 3
kind_of (BadText line column why) = 4
kind_of (BadValue path why) = 5
kind_of (TooLong length) = 6
kind_of (BadPdu place why) = 7
kind_of (BadLabel why) = 8
kind_of ShortLabel = 8
kind_of (NotCompatible why) = 9
kind_of _ = 0

-- the number of an octet, from 0
abbrev pub place_of : Refusal → ℕ
place_of (BadOctets place why) = place
place_of (BadPdu place why) = place
place_of _ = 0

-- a line and a column, from 1
abbrev pub line_of : Refusal → ℕ
line_of (BadIdl file line column why) = line
line_of (BadText line column why) = line
line_of _ = 0

abbrev pub column_of : Refusal → ℕ
column_of (BadIdl file line column why) = column
column_of (BadText line column why) = column
column_of _ = 0

-- the number that an attribute states, as 128 bits in two's complement; the greatest length; what the older interface has
abbrev pub wanted_of : Refusal → ℕ
wanted_of (BadOctets place (Refused (reason.Disagrees wanted found))) = cast_unsigned w128 wanted
wanted_of (BadValue path (misfit.Disagrees wanted found)) = cast_unsigned w128 wanted
wanted_of (TooLong length) = STREAM_LIMIT
wanted_of (NotCompatible (OtherMajor old new)) = old
wanted_of (NotCompatible (OlderMinor old new)) = old
wanted_of (NotCompatible (Fewer old new)) = old
wanted_of _ = 0

-- the number that was found, as 128 bits in two's complement; the length; what the newer interface has
abbrev pub found_of : Refusal → ℕ
found_of (BadOctets place (Refused (reason.Disagrees wanted found))) = cast_unsigned w128 found
found_of (BadValue path (misfit.Disagrees wanted found)) = cast_unsigned w128 found
found_of (TooLong length) = length
found_of (NotCompatible (OtherMajor old new)) = new
found_of (NotCompatible (OlderMinor old new)) = new
found_of (NotCompatible (Fewer old new)) = new
found_of _ = 0

-- the numbers of a refusal
pub record IsCauseOf (r : Refusal) (c : Cause) : Type 0 where
  pub kind : c.kind ≡ kind_of r
  pub reason : c.reason ≡ reason_of r
  pub rule : c.rule ≡ rule_of r
  pub place : c.place ≡ place_of r
  pub line : c.line ≡ line_of r
  pub column : c.column ≡ column_of r
  pub wanted : joined_halves c.wanted ≡ wanted_of r
  pub found : joined_halves c.found ≡ found_of r
