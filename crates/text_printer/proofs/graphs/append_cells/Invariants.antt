use Rattle.std.proofs.Common.{◌+◌, drop}
use Rattle.text_printer.specs.Texts.{cells_text}
use Rattle.text_printer.specs.Walks.{CellsBegin}
use Rattle.text_printer.proofs.Listing.{Comes}
use Rattle.text_printer.proofs.graphs.append_cells.Given as goal

abbrev pub invariant-loop-at : goal.invariant-loop-at
invariant-loop-at l =
    CellsBegin l.types l.graph.cells → Comes l.text (cells_text l.types (l.at + 1) (drop l.at l.graph.cells)) l.initial.text (cells_text l.types 1 l.graph.cells)
