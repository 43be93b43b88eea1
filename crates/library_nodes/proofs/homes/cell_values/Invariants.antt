use Rattle.library_nodes.proofs.Lists.{CellsCame}
use Rattle.library_nodes.proofs.homes.cell_values.Given as goal

abbrev pub invariant-loop-number : goal.invariant-loop-number
invariant-loop-number l = CellsCame l.types l.numbers l.number-index l.fn.reader l.cells l.reader
