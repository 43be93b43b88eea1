-- What a source of lent octets holds.
use Rattle.std.specs.Prelude.{ℕ, Bool, List, length, drop, nat_le}
use Rattle.nd_base.specs.declared.lent.LentSource.{LentSource}

-- the octets that are left
abbrev pub lent_left : LentSource → List ℕ
lent_left s = drop s.at s.octets.now

-- whether nothing is left
abbrev pub lent_ended : LentSource → Bool
lent_ended s = nat_le (length (lent_left s)) 0
