use Rattle.nd_types.proofs.NumberSides.{plain_numbers}
use Rattle.nd_value.specs.Fitting.{setting_of}
use Rattle.example_ndr.proofs.PlainFit as p
use Rattle.example_ndr.proofs.SimpleCells.{plain_cells}
use Rattle.example_ndr.proofs.plain_graphs.plain_exact.Goals as goal

pub returns : goal.returns
returns c i op o s g plain there none few nodes =
    p.plain_exact (setting_of i o s) g (p.simple_cells i.types g.cells (plain_cells i.types i.operations g plain))
    (p.number_side i op o s (plain_numbers i.types i.operations plain op s o there) there) none few nodes
