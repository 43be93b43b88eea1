use Rattle.ndr_decoder_laws.proofs.verdict.Alone.{represents_alone}
use Rattle.ndr_decoder_laws.proofs.laws.verdict.graph_alone.Goals as goal

pub returns : goal.returns
returns c = λ w side order octets all e f g h. represents_alone w side order octets all e f g h
