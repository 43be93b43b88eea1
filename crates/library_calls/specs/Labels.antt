-- Why the format label that octets begin with is refused.
use Rattle.std.specs.Prelude.{◌≡◌, ◌<◌, ℕ, List, length, Err}
use Rattle.ndr_prim.specs.Label.{order_of_label}
use Rattle.command_refusals.specs.declared.refusal.Refusal.{Refusal}
use Rattle.command_refusals.specs.declared.refusal.Refusal.TheVariants.{BadLabel, ShortLabel}

abbrev pub IsLabelCause : List ℕ → Refusal → Type 0
IsLabelCause octets ShortLabel = length octets < 4
IsLabelCause octets (BadLabel why) = order_of_label octets ≡ Err why
IsLabelCause octets _ = ⊥
