use Rattle.example_ndr.proofs.SimpleCells.{plain_cells}
use Rattle.example_ndr.proofs.plain_graphs.plain_cells_are_simple.Goals as goal

pub returns : goal.returns
returns c = plain_cells
