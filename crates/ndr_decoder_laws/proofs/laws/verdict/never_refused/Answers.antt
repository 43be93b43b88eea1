use Rattle.ndr_decoder_laws.proofs.verdict.NeverRefused as law
use Rattle.ndr_decoder_laws.proofs.laws.verdict.never_refused.Goals as goal

pub returns : goal.returns
returns c = λ w order s place why t part rest g e k r. law.never_refused w order s place why t part rest g e k r
