use Rattle.nd_flat.proofs.NamedCells.{skip_records_cells, skip_records_less}
use Rattle.nd_flat.proofs.walk.Walk.skip_records.Goals as goal

pub returns-clause-cells : goal.returns-clause-cells
returns-clause-cells c = skip_records_cells c.records-records.result c.args.self.now c.records-records.new.self c.records-records.ensures.some c.records-records.ensures.none

pub returns-clause-less : goal.returns-clause-less
returns-clause-less c = skip_records_less c.records-records.result c.args.self.now c.records-records.new.self c.records-records.ensures.some c.records-records.ensures.none
