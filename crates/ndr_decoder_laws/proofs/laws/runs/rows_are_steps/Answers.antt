use Rattle.ndr_decoder_laws.proofs.runs.RowSteps.{row_right}
use Rattle.ndr_decoder_laws.proofs.laws.runs.rows_are_steps.Goals as goal

pub returns : goal.returns
returns c = row_right
