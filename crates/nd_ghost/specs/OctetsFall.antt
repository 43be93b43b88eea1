-- Each octet makes a list of octets longer.
use Rattle.std.specs.Prelude.{◌≤◌, [], ◌∷◌, length}
use Rattle.std.proofs.Common.{arith, length-append}
use Rattle.nd_ghost.specs.declared.octets.Front.{Front}
use Rattle.nd_ghost.specs.declared.octets.Front.TheVariants.{Empty, Then}
use Rattle.nd_ghost.specs.declared.octets.Listed.TheDeep as deep
use Rattle.nd_ghost.specs.declared.octets.Listed.TheInside as inside
use Rattle.nd_ghost.specs.Octets.{octets_of}

pub octets_fall : (a : inside.Inside) → deep.deep-Listed a ≤ length (octets_of a.front)
octets_fall a = go a.front
  where
    go : (f : Front) → deep.deep-Listed (record { front = f }) ≤ length (octets_of f)
    go Empty = omega arith
    go (Then before octet) = omega (arith, length-append before.value (octet ∷ []))
