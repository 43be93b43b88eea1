-- The numbers that octets spell (C706 14.2: integers in two's complement, in the order of the stream).
-- `b` is an octet, `p` a primitive, `v` a number of octets, `z` a whole number, `n` how many octets.
use Rattle.std.specs.Prelude.{ℕ, ◌+◌, ◌-◌, ◌*◌, ◌^◌, ◌<◌, ◌/◌, ◌%◌, zero, suc, ℤ, pos, negsuc, ◌-ℤ◌, Bool, true, false, if◌then◌else◌, nat_lt, List}
use Rattle.std.specs.Prelude.{[], ◌∷◌}
use Rattle.std.specs.Prelude.{reverse}
use Rattle.std.specs.List.{AllByRecursion}
use Rattle.nd_base.specs.declared.octets.Order.{Order}
use Rattle.nd_base.specs.declared.octets.Order.TheVariants.{Big, Little}
use Rattle.nd_types.specs.declared.types.Primitive.{Primitive}
use Rattle.nd_types.specs.declared.types.Primitive.TheVariants.{Boolean}
use Rattle.nd_types.specs.Table.{width, is_signed}

-- octets are numbers from 0 to 255
abbrev pub AreOctets : List ℕ → Type 0
AreOctets octets = AllByRecursion (λ b. b < 256) octets

-- the number of octets whose least significant stands first
abbrev pub little : List ℕ → ℕ
little [] = 0
little (b ∷ bs) = b + 256 * little bs

-- octets of an order with the least significant first, and the other way round: it is the same step
abbrev pub in_order : Order → List ℕ → List ℕ
in_order Big octets = reverse octets
in_order Little octets = octets

-- the unsigned number of octets of an order
abbrev pub unsigned : Order → List ℕ → ℕ
unsigned order octets = little (in_order order octets)

-- the number of n octets in two's complement, from their unsigned number
abbrev pub as_signed : ℕ → ℕ → ℤ
as_signed n v = if nat_lt v (2 ^ (8 * n - 1)) then pos v else pos v -ℤ pos (2 ^ (8 * n))

-- a number of n octets, signed or not
abbrev by_sign : Bool → ℕ → ℕ → ℤ
by_sign true n v = as_signed n v
by_sign false n v = pos v

-- TRUE is any number but 0, and is read as 1
abbrev pub truth : ℕ → ℤ
truth zero = pos 0
truth (suc n) = pos 1

-- the value of a primitive that octets hold: any octet but zero is TRUE
abbrev pub value_of_octets : Order → Primitive → List ℕ → ℤ
value_of_octets order Boolean octets = truth (unsigned order octets)
value_of_octets order p octets = by_sign (is_signed p) (width p) (unsigned order octets)

-- n octets of a number, the least significant first
abbrev pub digits : ℕ → ℕ → List ℕ
digits zero v = []
digits (suc n) v = v % 256 ∷ digits n (v / 256)

-- n octets of a number, in an order
abbrev pub spelling : Order → ℕ → ℕ → List ℕ
spelling order n v = in_order order (digits n v)

-- the unsigned number whose n octets spell a whole number in two's complement
abbrev pub from_signed : ℕ → ℤ → ℕ
from_signed n (pos v) = v
from_signed n (negsuc v) = 2 ^ (8 * n) - 1 - v

-- the octets of a primitive's value
abbrev pub written : Order → Primitive → ℤ → List ℕ
written order p z = spelling order (width p) (from_signed (width p) z)
