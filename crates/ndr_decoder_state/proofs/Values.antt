-- Values that octets hold.
use Rattle.std.proofs.Common.{◌≡◌, ◌<◌, ◌^◌, ℕ, ℤ, suc, List, [], ◌∷◌, length, get_or, sym, subst}
use Rattle.nd_base.specs.declared.octets.Order.{Order}
use Rattle.nd_types.specs.declared.types.Primitive.{Primitive}
use Rattle.nd_types.specs.Number.{AreOctets, value_of_octets}
use Rattle.nd_types.specs.Table.{width}
use Rattle.nd_grammar.proofs.reader.Ranges.{value_in_range}
use Rattle.nd_flat.specs.FlatForm.{IsKeepableNumber}
use Rattle.nd_flat.proofs.Keepables.{number_keepable}

pub octets_by_index : (os : List ℕ) → ((i : ℕ) → get_or os i 0 < 2 ^ 8) → AreOctets os
octets_by_index [] h = tt
octets_by_index (b ∷ os) h = (h 0, octets_by_index os (λ i. h (suc i)))

-- a node can keep what the octets of a primitive hold
pub value_keepable : (order : Order) (p : Primitive) (os : List ℕ) (z : ℤ) → length os ≡ width p → ((i : ℕ) → get_or os i 0 < 2 ^ 8)
    → z ≡ value_of_octets order p os → IsKeepableNumber z
value_keepable order p os z wide octets e = subst IsKeepableNumber (sym e) (number_keepable p _ (value_in_range order p os wide (octets_by_index os octets)))
