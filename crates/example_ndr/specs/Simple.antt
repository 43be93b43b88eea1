-- Types whose values have neither parts nor pointers.
use Rattle.std.specs.Prelude.{Bool, true, Option, Some, None}
use Rattle.std.specs.List.{list_all}
use Rattle.nd_types.specs.declared.types.TypeDef.{TypeDef}
use Rattle.nd_types.specs.Table.{Table, type_at}
use Rattle.nd_types.specs.Kinds.{is_basic}
use Rattle.nd_value.specs.declared.value.Graph.{Graph}

-- a primitive, a context handle, or nothing
abbrev pub is_simple : Option TypeDef → Bool
is_simple None = true
is_simple (Some d) = is_basic d

-- each cell is of such a type, or of none of the table
abbrev pub has_simple_cells : Table → Graph → Bool
has_simple_cells table g = list_all (λ c. is_simple (type_at table c.of)) g.cells
