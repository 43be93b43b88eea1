use Rattle.ndr_encoder_laws.proofs.turns.Turns.{turns_are}
use Rattle.ndr_encoder_laws.proofs.laws.turns.turns_are_deferral.Goals as goal

pub returns : goal.returns
returns c w side g conforms steps deferral = turns_are w side g conforms steps deferral
