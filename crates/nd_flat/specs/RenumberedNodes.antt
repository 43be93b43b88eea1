-- Kept nodes and spans of a graph whose cells are renumbered.
-- `numbers` are the new numbers of cells by the old ones, `cs` are spans of cells, `c` is a cell's number.
use Rattle.std.specs.Prelude.{ℕ, ◌-◌, List, slice_index_or}
use Rattle.nd_flat.specs.declared.node.Node.{Node}
use Rattle.nd_flat.specs.declared.node.Node.TheVariants as kept
use Rattle.nd_flat.specs.declared.flat.CellSpan.{CellSpan}
use Rattle.nd_flat.specs.Store.{no_cell}

-- a node with its cell renumbered, if it names one
abbrev pub renumbered_node : List ℕ → Node → Node
renumbered_node numbers (kept.Ptr cell) = kept.Ptr (record { 0 = slice_index_or numbers cell.0 0 })
renumbered_node numbers n = n

-- the span of a cell by its number, from 1
abbrev pub cell_span : List CellSpan → ℕ → CellSpan
cell_span cs c = slice_index_or cs (c - 1) no_cell
