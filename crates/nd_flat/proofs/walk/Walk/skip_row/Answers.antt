use Rattle.nd_flat.proofs.NamedCells.{skip_cells, skip_less}
use Rattle.nd_flat.proofs.walk.Walk.skip_row.Goals as goal

pub returns-clause-cells : goal.returns-clause-cells
returns-clause-cells c = skip_cells c.row-row.result c.args.self.now c.row-row.new.self c.row-row.ensures.some c.row-row.ensures.none

pub returns-clause-less : goal.returns-clause-less
returns-clause-less c = skip_less c.row-row.result c.args.self.now c.row-row.new.self c.row-row.ensures.some c.row-row.ensures.none
