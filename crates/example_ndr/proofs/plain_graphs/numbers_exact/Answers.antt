use Rattle.nd_value.specs.Fitting.{setting_of}
use Rattle.example_ndr.proofs.PlainFit as p
use Rattle.example_ndr.proofs.plain_graphs.numbers_exact.Goals as goal

pub returns : goal.returns
returns c i op o s g numbers simple there none few nodes =
    p.plain_exact (setting_of i o s) g (p.simple_cells i.types g.cells simple) (p.number_side i op o s numbers there) none few nodes
