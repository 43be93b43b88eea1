-- The format label of octets in the network data representation (C706 14.1).
use Rattle.std.specs.Prelude.{ℕ, ◌/◌, ◌%◌, zero, suc, List, slice_index, Result, Ok, Err}
use Rattle.nd_base.specs.declared.octets.Order.{Order}
use Rattle.nd_base.specs.declared.octets.Order.TheVariants.{Big, Little}
use Rattle.ndr_prim.specs.declared.label.LabelFault.{LabelFault}
use Rattle.ndr_prim.specs.declared.label.LabelFault.TheVariants.{BadOrder, Ebcdic, BadCharset}

-- the integer representation: 0 is big endian, 1 is little endian
abbrev pub integer_representation : List ℕ → ℕ
integer_representation label = slice_index label 0 / 16

-- the character representation: 0 is ASCII, 1 is EBCDIC
abbrev pub character_representation : List ℕ → ℕ
character_representation label = slice_index label 0 % 16

-- the order of octets that the two representations state, or the first fault
abbrev pub order_stated : ℕ → ℕ → Result Order LabelFault
order_stated (suc (suc i)) c = Err BadOrder
order_stated i (suc zero) = Err Ebcdic
order_stated i (suc (suc c)) = Err BadCharset
order_stated zero zero = Ok Big
order_stated (suc zero) zero = Ok Little

-- the order of octets that a label states
abbrev pub order_of_label : List ℕ → Result Order LabelFault
order_of_label label = order_stated (integer_representation label) (character_representation label)
