use Rattle.ndr_decoder_laws.proofs.reader.Continuing.{finish_stays}
use Rattle.ndr_decoder_laws.proofs.reader.Worklist.{stream_stays}
use Rattle.ndr_decoder_laws.proofs.laws.reader.stops_stay.Goals as goal

pub returns : goal.returns
returns c = record { value = finish_stays; stream = stream_stays }
