use Rattle.ndr_decoder_laws.proofs.stream.FineTypes as law
use Rattle.ndr_decoder_laws.proofs.laws.stream.types_are_fine.Goals as goal

pub returns : goal.returns
returns c = λ table operations legal t u. law.usable_fine table operations legal t u
