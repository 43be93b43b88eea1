use Rattle.example_ndr.proofs.Rows as rows
use Rattle.example_ndr.proofs.graphs.size_by_response.Goals as goal

pub returns : goal.returns
returns c = rows.own_size
