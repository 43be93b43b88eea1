use Rattle.example_ndr.proofs.Rows as rows
use Rattle.example_ndr.proofs.graphs.misfits_in_cells.Goals as goal

pub returns : goal.returns
returns c = record { disagrees = rows.disagrees; zero = rows.zero }
