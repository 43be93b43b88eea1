use Rattle.ndr_decoder_laws.proofs.stream.StreamBegins as law
use Rattle.ndr_decoder_laws.proofs.laws.stream.streams_begin.Goals as goal

pub returns : goal.returns
returns c = λ w side order b g. law.stream_begins w side order b g
