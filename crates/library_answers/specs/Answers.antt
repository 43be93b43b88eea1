-- What handles hold, and what numbers mean.
use Rattle.std.specs.Prelude.{ℕ, List, Option, Some, None, Bool, ◌==◌, ◌&&◌, if◌then◌else◌, nat_lt, is_some, slice_get, IsSomeAnd}
use Rattle.nd_base.specs.declared.octets.Order.{Order}
use Rattle.nd_base.specs.declared.octets.Order.TheVariants.{Big, Little}
use Rattle.nd_types.specs.declared.interface.Interface.{Interface}
use Rattle.nd_types.specs.declared.types.Operation.{Operation}
use Rattle.nd_types.specs.declared.types.Side.{Side}
use Rattle.nd_types.specs.declared.types.Side.TheVariants.{In, Out}
use Rattle.nd_value.specs.Fitting.{Fitting}
use Rattle.command_refusals.specs.declared.refusal.Refusal.{Refusal}
use Rattle.library_handles.specs.declared.held.Held.{Held}
use Rattle.library_handles.specs.declared.held.Held.TheVariants as kept

-- ## Handles

-- the interface that a handle holds
abbrev pub interface_in : Option Held → Option Interface
interface_in (Some (kept.Interface shared)) = Some shared.value
interface_in _ = None

-- the values that a handle holds
abbrev pub values_in : Option Held → Option Fitting
values_in (Some (kept.Values values)) = Some values
values_in _ = None

-- the refusal that a handle holds
abbrev pub refusal_in : Option Held → Option Refusal
refusal_in (Some (kept.Refusal refusal)) = Some refusal
refusal_in _ = None

-- ## Numbers

-- the side of a number
abbrev pub side_numbered : ℕ → Option Side
side_numbered n = if n == 0 then Some In else (if n == 1 then Some Out else None)

abbrev pub number_of_side : Side → ℕ
number_of_side In = 0
number_of_side Out = 1

-- the order of a number
abbrev pub order_numbered : ℕ → Option Order
order_numbered n = if n == 0 then Some Little else (if n == 1 then Some Big else None)

abbrev pub number_of_order : Order → ℕ
number_of_order Little = 0
number_of_order Big = 1

-- these are the numbers of an operation and of a side, and this holds of both
abbrev pub OfSide : Interface → ℕ → ℕ → (Operation → Side → Type 0) → Type 0
OfSide i operation side P = IsSomeAnd (slice_get i.operations operation) (λ o. IsSomeAnd (side_numbered side) (P o))

-- this is the number of an order, and this holds of it
abbrev pub OfOrder : ℕ → (Order → Type 0) → Type 0
OfOrder order P = IsSomeAnd (order_numbered order) P

-- whether these are the numbers of a side and of an operation
abbrev pub is_side : Interface → ℕ → ℕ → Bool
is_side i operation side = is_some (side_numbered side) && is_some (slice_get i.operations operation)

-- whether these are, and this is the number of an order
abbrev pub is_stream : Interface → ℕ → ℕ → ℕ → Bool
is_stream i operation side order = is_some (side_numbered side) && (is_some (order_numbered order) && is_some (slice_get i.operations operation))

-- whether this is the number of an order, and this the greatest count of a chunk
abbrev pub is_layout : ℕ → ℕ → Bool
is_layout order chunk = is_some (order_numbered order) && nat_lt 0 chunk
