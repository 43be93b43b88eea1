use Rattle.ndr_encoder_value.proofs.Encoded.{all_there, turns_same, turns_fit}
use Rattle.ndr_encoder_value.proofs.laws.turns_can_be_written.Goals as goal

pub returns-clause-there : goal.returns-clause-there
returns-clause-there c w side g conforms = all_there w side g conforms

pub returns-clause-same : goal.returns-clause-same
returns-clause-same c w side g conforms k n = turns_same w side g conforms (c.roots_and_pipes.ensures.pipes w) k n

pub returns-clause-fit : goal.returns-clause-fit
returns-clause-fit c w side g conforms k n = turns_fit w side g conforms (c.roots_and_pipes.ensures.pipes w) k n
