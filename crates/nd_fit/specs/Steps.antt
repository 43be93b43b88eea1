-- A graph put into a builder: first each cell gets its number, then the roots are built, then the cells.
-- `old` and `new` are builders, `vs` are roots, `xs` cells.
use Rattle.std.specs.Prelude.{◌≡◌, List, ◌++◌, map}
use Rattle.nd_value.specs.Setting.{unread}
use Rattle.nd_value.specs.Tree.{Tree, Referent}
use Rattle.nd_flat.specs.Building.{Building, with_graph, closed}
use Rattle.nd_flat.specs.Built.{HasGraph}

-- roots were built
abbrev pub AllRooted : List Tree → Building → Building → Type 0
AllRooted vs old new = HasGraph (record { roots = (closed old).roots ++ vs; cells = (closed old).cells }) old new

-- a cell that is not built
abbrev pub blank : Referent → Referent
blank x = record { of = x.of; val = unread }

-- cells were reserved
abbrev pub AllReserved : List Referent → Building → Building → Type 0
AllReserved xs old new = new ≡ with_graph (record { roots = old.graph.roots; cells = old.graph.cells ++ map blank xs }) old

-- all cells were built
abbrev pub AllFilled : List Referent → Building → Building → Type 0
AllFilled xs old new = HasGraph (record { roots = (closed old).roots; cells = xs }) old new
