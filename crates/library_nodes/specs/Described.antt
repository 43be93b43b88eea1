-- What nodes say of themselves. What does not apply to a kind is 0.
-- `e` are elements, `c` is a cell.
use Rattle.std.specs.Prelude.{ℕ, ◌-◌, Option, Some, None}
use Rattle.nd_value.specs.declared.value.CellId.{CellId}
use Rattle.library_nodes.specs.declared.description.Description.{Description}
use Rattle.library_nodes.specs.declared.node.Elements.{Elements}
use Rattle.library_nodes.specs.declared.node.Node.{Node}
use Rattle.library_nodes.specs.declared.node.Node.TheVariants.{Number, Struct, Array, Text, Union, Pointer, Context, Pipe}
use Rattle.library_nodes.specs.Parts.{part_count}

-- a node of a kind, which has so many parts and a number
abbrev pub plain : ℕ → ℕ → ℕ → Description
plain kind parts number =
    record { kind = kind; parts = parts; count = 0; numbers = 0; max = 0; offset = 0; number = number; length = 0 }

-- an array or a pipe
abbrev pub with_elements : ℕ → ℕ → ℕ → Elements → Description
with_elements kind max offset e =
    record { kind = kind; parts = e.count - e.numbers; count = e.count; numbers = e.numbers; max = max; offset = offset; number = 0; length = 0 }

-- a node that has octets
abbrev pub with_octets : ℕ → ℕ → ℕ → ℕ → Description
with_octets kind max number length =
    record { kind = kind; parts = 0; count = 0; numbers = 0; max = max; offset = 0; number = number; length = length }

-- the number of a cell; 0 of none
abbrev pub cell_in : Option CellId → ℕ
cell_in None = 0
cell_in (Some c) = c.0

abbrev pub described : Node → Description
described (Number number) = plain 1 0 number
described (Struct count) = plain 2 count 0
described (Array max offset e) = with_elements 3 max offset e
described (Text max from len) = with_octets 4 max 0 len
described (Union tag armed) = plain 5 (part_count (Union tag armed)) tag
described (Pointer cell) = plain 6 0 (cell_in cell)
described (Context attributes id) = with_octets 7 0 attributes 16
described (Pipe e) = with_elements 8 0 0 e
