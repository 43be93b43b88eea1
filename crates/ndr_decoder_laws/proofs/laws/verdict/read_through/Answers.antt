use Rattle.ndr_decoder_laws.proofs.verdict.ReadThrough.{read_in_part}
use Rattle.ndr_decoder_laws.proofs.laws.verdict.read_through.Goals as goal

pub returns : goal.returns
returns c = λ w side order octets all earlier later e. read_in_part w side order octets all earlier later e
