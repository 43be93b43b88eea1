-- Why octets that are wanted are not there.
-- `s` is a source over a call, `at` the place at which `count` octets are wanted, `os` those that came.
use Rattle.std.specs.Prelude.{◌≡◌, ◌<◌, ℕ, ◌+◌, true, List, [], length}
use Rattle.std.specs.Io.KnownBytes.{IsAtEnd}
use Rattle.nd_base.specs.Over.{SourceOver, HasRisen}
use Rattle.nd_base.specs.declared.TheConstants.{STREAM_LIMIT}
use Rattle.nd_base.specs.declared.intake.IntakeFault.{IntakeFault}
use Rattle.nd_base.specs.declared.intake.IntakeFault.TheVariants as fault

-- there was no memory, or the source failed
abbrev pub IsFailed : SourceOver → IntakeFault → Type 0
IsFailed s fault.Memory = Unit {0}
IsFailed s fault.ReadFault = HasRisen s.faults
IsFailed s fault.TooLong = ⊥
IsFailed s (fault.Truncated place) = ⊥

-- the source has ended at a place, before all octets came
pub record HasEnded (s : SourceOver) (at place : ℕ) (os : List ℕ) : Type 0 where
  pub ended : s.ended_now ≡ true
  pub none_left : IsAtEnd s.left_now
  pub there : place ≡ at + length os

abbrev pub GapFaultBy : SourceOver → ℕ → List ℕ → IntakeFault → Type 0
GapFaultBy s at os (fault.Truncated place) = HasEnded s at place os
GapFaultBy s at os e = IsFailed s e

-- fewer came than were wanted
pub record IsGapFault (s : SourceOver) (at count : ℕ) (os : List ℕ) (e : IntakeFault) : Type 0 where
  pub fewer : length os < count
  pub why : GapFaultBy s at os e

-- octets that would end past the limit of a stream are not fetched
pub record IsTooLong (s : SourceOver) (at count : ℕ) (os : List ℕ) : Type 0 where
  pub past : STREAM_LIMIT < at + count
  pub none : os ≡ []
  pub nothing_taken : s.left_now ≡ s.left
  pub no_fault : s.faults.now ≡ s.faults.before

abbrev pub IsItemFault : SourceOver → ℕ → ℕ → List ℕ → IntakeFault → Type 0
IsItemFault s at count os fault.TooLong = IsTooLong s at count os
IsItemFault s at count os e = IsGapFault s at count os e
