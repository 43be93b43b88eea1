use Rattle.ndr_encoder_laws.proofs.chosen.Written as all
use Rattle.ndr_encoder_laws.proofs.laws.chosen.turns_are_written.Goals as goal

pub returns : goal.returns
returns c w side g conforms k = all.written w side g conforms (c.roots_and_pipes.ensures.pipes w) k
