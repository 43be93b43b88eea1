-- What a buffer gets of the octets of a fit, and why it gets none.
-- `f` is a fit, `chunk` the greatest count of a chunk, `old` and `new` the buffer.
use Rattle.std.specs.Prelude.{◌≡◌, ℕ, ◌≤◌, ◌<◌, List, take, drop, length, ⊤}
use Rattle.nd_base.specs.declared.octets.Order.{Order}
use Rattle.nd_value.specs.Fitting.{Fitting}
use Rattle.ndr_encode.specs.Work.{IsChosen, HasLength, IsTooLong}
use Rattle.command_refusals.specs.declared.refusal.Refusal.{Refusal}
use Rattle.command_refusals.specs.declared.refusal.Refusal.TheVariants.{Memory, TooLong}
use Rattle.library_values.specs.declared.encoding.Encoded.{Encoded}
use Rattle.library_values.specs.declared.encoding.Encoded.TheVariants.{Written, Short}

-- the octets are at the front of the buffer, and the rest of it is as it was
pub record IsWritten (f : Fitting) (order : Order) (chunk : ℕ) (old new : List ℕ) (many : ℕ) : Type 0 where
  pub has_length : HasLength f chunk many
  pub room : many ≤ length old
  pub chosen : IsChosen f order chunk (take many new)
  pub rest : drop many new ≡ drop many old

-- the octets are more than the buffer has room for, and it is as it was
pub record IsShort (f : Fitting) (chunk : ℕ) (old new : List ℕ) (many : ℕ) : Type 0 where
  pub has_length : HasLength f chunk many
  pub no_room : length old < many
  pub same : new ≡ old

-- what the buffer got
abbrev pub IsEncoded : Fitting → Order → ℕ → List ℕ → List ℕ → Encoded → Type 0
IsEncoded f order chunk old new (Written many) = IsWritten f order chunk old new many
IsEncoded f order chunk old new (Short many) = IsShort f chunk old new many

-- why nothing is written: the octets are more than a stream may have; running out of memory needs no cause
abbrev pub IsEncodeCause : Fitting → ℕ → Refusal → Type 0
IsEncodeCause f chunk Memory = ⊤
IsEncodeCause f chunk (TooLong many) = IsTooLong f chunk many
IsEncodeCause f chunk _ = ⊥
