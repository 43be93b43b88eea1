-- What a source that never fails holds.
use Rattle.std.specs.Prelude.{ℕ, Bool, List, length, drop, nat_le}
use Rattle.nd_base.specs.declared.plain.PlainSource.{PlainSource}

-- the octets that it was made of
abbrev pub plain_octets : PlainSource → List ℕ
plain_octets s = s.octets

-- the octets that are left
abbrev pub plain_left : PlainSource → List ℕ
plain_left s = drop s.at s.octets

-- whether nothing is left
abbrev pub plain_ended : PlainSource → Bool
plain_ended s = nat_le (length (plain_left s)) 0
