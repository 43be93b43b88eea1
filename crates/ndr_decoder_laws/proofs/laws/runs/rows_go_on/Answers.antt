use Rattle.ndr_decoder_laws.proofs.runs.RowSteps.{row_on}
use Rattle.ndr_decoder_laws.proofs.laws.runs.rows_go_on.Goals as goal

pub returns : goal.returns
returns c = row_on
