use Rattle.example_ndr.proofs.Rows as rows
use Rattle.example_ndr.proofs.graphs.rings_differ.Goals as goal

pub returns : goal.returns
returns c = rows.rings_differ
