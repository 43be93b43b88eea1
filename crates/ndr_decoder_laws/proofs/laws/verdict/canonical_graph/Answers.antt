use Rattle.ndr_decoder_laws.proofs.verdict.NamedInTurn.{reader_canonical}
use Rattle.ndr_decoder_laws.proofs.laws.verdict.canonical_graph.Goals as goal

pub returns : goal.returns
returns c = λ w side order octets all. reader_canonical w side order octets all
