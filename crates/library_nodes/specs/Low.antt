-- Nodes whose numbers and tags are their low 64 bits in two's complement.
-- `z` is a number or a tag, `l` a label, `f` a node with the number of its children.
use Rattle.std.specs.Prelude.{pos, List, map}
use Rattle.nd_value.specs.Tree.{Label, Flat, Num, Union}
use Rattle.library_types.specs.Low.{low}

-- a label whose number or tag is its low 64 bits
abbrev pub low_label : Label → Label
low_label (Num z) = Num (pos (low z))
low_label (Union z) = Union (pos (low z))
low_label l = l

abbrev pub low_flat : Flat → Flat
low_flat f = (low_label f.0, f.1)

abbrev pub low_flats : List Flat → List Flat
low_flats fs = map low_flat fs
