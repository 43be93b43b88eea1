use Rattle.ndr_decoder_laws.proofs.steps.Begins.{begins_plain, begins_hoisting}
use Rattle.ndr_decoder_laws.proofs.laws.steps.homes_begin.Goals as goal

pub returns : goal.returns
returns c = record { plain = begins_plain; hoisting = begins_hoisting }
