use Rattle.ndr_decoder_laws.proofs.steps.PointSteps.{step_right}
use Rattle.ndr_decoder_laws.proofs.laws.steps.steps_are_right.Goals as goal

pub returns : goal.returns
returns c = step_right
