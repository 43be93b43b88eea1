-- The values of signed primitives.
use Rattle.std.proofs.Common.{◌≡◌, ℕ, List, ◌⊎◌, refl, arith}
use Rattle.nd_base.specs.declared.octets.Order.{Order}
use Rattle.nd_types.specs.declared.types.Primitive.{Primitive}
use Rattle.nd_types.specs.declared.types.Primitive.TheVariants.{Small, Short, Long, Hyper}
use Rattle.nd_types.specs.Table.{width}
use Rattle.nd_types.specs.Number.{unsigned, value_of_octets, as_signed}

-- the octets of a signed primitive are two's complement
pub value-signed : (order : Order) (p : Primitive) (os : List ℕ)
    → (p ≡ Small) ⊎ ((p ≡ Short) ⊎ ((p ≡ Long) ⊎ (p ≡ Hyper))) → as_signed (width p) (unsigned order os) ≡ value_of_octets order p os
value-signed order Small os h = refl
value-signed order Short os h = refl
value-signed order Long os h = refl
value-signed order Hyper os h = refl
value-signed order p os h = grind arith
