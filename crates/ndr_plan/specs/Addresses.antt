-- The addresses of the runs of types as the program keeps them.
-- `a` are addresses, `t` is a type's number.
use Rattle.std.specs.Prelude.{◌≡◌, ℕ, Option, Some, None, slice_get}
use Rattle.nd_types.specs.Table.{Table}
use Rattle.ndr_code.specs.Code.{place_at, whole_at}
use Rattle.ndr_plan.specs.declared.addresses.Address.{Address}
use Rattle.ndr_plan.specs.declared.addresses.Addresses.{Addresses}

abbrev pub place_found : ℕ → Option Address → ℕ
place_found end None = end
place_found end (Some a) = a.place

abbrev pub whole_found : ℕ → Option Address → ℕ
whole_found end None = end
whole_found end (Some a) = a.whole

-- the address of the place run of a type, and of its whole run
abbrev pub place_in : Addresses → ℕ → ℕ
place_in a t = place_found a.end (slice_get a.items.items t)

abbrev pub whole_in : Addresses → ℕ → ℕ
whole_in a t = whole_found a.end (slice_get a.items.items t)

-- These are the addresses in the plan of a table.
pub record AreAddresses (table : Table) (a : Addresses) : Type 0 where
  pub places : (t : ℕ) → place_in a t ≡ place_at table t
  pub wholes : (t : ℕ) → whole_in a t ≡ whole_at table t
