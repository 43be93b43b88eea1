use Rattle.ndr_decoder_laws.proofs.reader.Continuing.{moves}
use Rattle.ndr_decoder_laws.proofs.laws.reader.reading_goes_on.Goals as goal

pub returns : goal.returns
returns c = moves
