use Rattle.example_ndr.proofs.Rows as rows
use Rattle.example_ndr.proofs.graphs.size_by_request.Goals as goal

pub returns : goal.returns
returns c = record { free = rows.size_free; agrees = rows.size_agrees; disagrees = rows.size_disagrees }
