use Rattle.ndr_decoder_laws.proofs.runs.RecordSteps.{records_come}
use Rattle.ndr_decoder_laws.proofs.laws.runs.records_are_steps.Goals as goal

pub returns : goal.returns
returns c = records_come
