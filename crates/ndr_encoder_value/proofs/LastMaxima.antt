-- The nodes of a value, and its maximum count.
use Rattle.std.proofs.Common.{◌≡◌}
use Rattle.nd_value.specs.Tree.{Tree, none, more, flat}
use Rattle.nd_grammar.specs.Entry.{hoisted_max}
use Rattle.ndr_encoder_laws.specs.maximum.LastPart.{last_max}
use Rattle.ndr_encoder_laws.proofs.maximum.LastParts.{last_is}

-- of a value it is what is before it
pub value_max : (v : Tree) → last_max 1 (flat (more v none)) ≡ hoisted_max 0 (more v none)
value_max v = last_is (more v none)
