use Rattle.ndr_decoder_laws.proofs.steps.Lacking.{cut_right, long_right}
use Rattle.ndr_decoder_laws.proofs.laws.steps.refusals_by_length.Goals as goal

pub returns : goal.returns
returns c = record { cut = cut_right; long = long_right }
