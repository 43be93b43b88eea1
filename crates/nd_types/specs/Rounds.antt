-- The alignment of all types of a table, and which of them hoist, in rounds: each round goes by what the one before has of the parts.
-- `ls` is what is known so far, `t` the number of a type, `d` what it is.
use Rattle.std.specs.Prelude.{ℕ, zero, suc, Bool, false, List, Option, Some, None, map, slice_get}
use Rattle.nd_types.specs.declared.types.TypeDef.{TypeDef}
use Rattle.nd_types.specs.declared.TheConstants.{NESTING_LIMIT}
use Rattle.nd_types.specs.Table.{Table}
use Rattle.nd_types.specs.Layout.{align_by, hoists_by}
use Rattle.nd_types.specs.declared.layouts.Layout.{Layout}

abbrev pub align_found : Option Layout → ℕ
align_found None = 1
align_found (Some l) = l.align

abbrev pub hoists_found : Option Layout → Bool
hoists_found None = false
hoists_found (Some l) = l.hoists

abbrev pub align_in : List Layout → ℕ → ℕ
align_in ls t = align_found (slice_get ls t)

abbrev pub hoists_in : List Layout → ℕ → Bool
hoists_in ls t = hoists_found (slice_get ls t)

abbrev pub layout_by : Table → List Layout → TypeDef → Layout
layout_by table ls d = record { align = align_by table (align_in ls) (Some d); hoists = hoists_by (hoists_in ls) (Some d) }

abbrev pub round : Table → List Layout → List Layout
round table ls = map (layout_by table ls) table

-- what is before the first round
abbrev pub unknown : TypeDef → Layout
unknown d = record { align = 1; hoists = false }

abbrev pub layouts_after : ℕ → Table → List Layout
layouts_after zero table = map unknown table
layouts_after (suc k) table = round table (layouts_after k table)

-- as many rounds as types nest
unfoldable pub layouts_of : Table → List Layout
layouts_of table = layouts_after NESTING_LIMIT table
