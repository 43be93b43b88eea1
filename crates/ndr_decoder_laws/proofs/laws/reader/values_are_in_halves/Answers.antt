use Rattle.ndr_decoder_laws.proofs.reader.Continuing.{in_halves}
use Rattle.ndr_decoder_laws.proofs.laws.reader.values_are_in_halves.Goals as goal

pub returns : goal.returns
returns c = in_halves
