-- The maximum count of a node that may be the last part of all around it.
-- `p` is how many values are still to come, `l` a label.
use Rattle.std.specs.Prelude.{ℕ, ◌==◌, true, false, Option, None}
use Rattle.nd_value.specs.Tree.{Label}
use Rattle.ndr_encoder_laws.specs.maximum.LastPart.{own_count}

abbrev pub last_own : ℕ → Label → Option ℕ
last_own p l = elim (p == 1) [ true ↦ own_count l | false ↦ None ]
