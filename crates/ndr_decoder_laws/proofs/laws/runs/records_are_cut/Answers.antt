use Rattle.ndr_decoder_laws.proofs.runs.RecordSteps.{records_cut}
use Rattle.ndr_decoder_laws.proofs.laws.runs.records_are_cut.Goals as goal

pub returns : goal.returns
returns c = records_cut
