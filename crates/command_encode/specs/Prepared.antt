-- Why no work is prepared for a fit.
use Rattle.std.specs.Prelude.{ℕ, ⊤}
use Rattle.nd_value.specs.Fitting.{Fitting}
use Rattle.ndr_encode.specs.Work.{IsTooLong}
use Rattle.command_refusals.specs.declared.refusal.Refusal.{Refusal}
use Rattle.command_refusals.specs.declared.refusal.Refusal.TheVariants.{Memory, TooLong}

-- its octets are too many; running out of memory needs no cause
abbrev pub IsUnprepared : Fitting → ℕ → Refusal → Type 0
IsUnprepared f chunk Memory = ⊤
IsUnprepared f chunk (TooLong many) = IsTooLong f chunk many
IsUnprepared f chunk _ = ⊥
