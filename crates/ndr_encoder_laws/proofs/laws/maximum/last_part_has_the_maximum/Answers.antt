use Rattle.ndr_encoder_laws.proofs.maximum.LastParts.{last_is}
use Rattle.ndr_encoder_laws.proofs.laws.maximum.last_part_has_the_maximum.Goals as goal

pub returns : goal.returns
returns c = last_is
