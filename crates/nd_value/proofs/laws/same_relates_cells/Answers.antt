use Rattle.nd_value.proofs.SameCells as laws
use Rattle.nd_value.proofs.laws.same_relates_cells.Goals as goal

pub returns : goal.returns
returns c = record { itself = laws.same_itself; without_cells = laws.same_without_cells }
