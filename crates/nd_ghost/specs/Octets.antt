-- Octets that only contracts see.
use Rattle.std.specs.Prelude.{ℕ, List, [], ◌∷◌, ◌++◌}
use Rattle.nd_ghost.specs.declared.octets.Front.{Front}
use Rattle.nd_ghost.specs.declared.octets.Front.TheVariants.{Empty, Then}

-- the octets that a front comes to
abbrev pub octets_of : Front → List ℕ
octets_of Empty = []
octets_of (Then before octet) = before.value ++ octet ∷ []
