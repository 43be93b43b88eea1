use Rattle.ndr_encoder_laws.proofs.chosen.Written as all
use Rattle.ndr_encoder_laws.proofs.laws.chosen.turns_are_chosen.Goals as goal

pub returns-clause-octets : goal.returns-clause-octets
returns-clause-octets c w side g conforms k = all.chosen w side g conforms (c.roots_and_pipes.ensures.pipes w) k

pub returns-clause-ends : goal.returns-clause-ends
returns-clause-ends c w side g conforms k = all.ends w side g conforms (c.roots_and_pipes.ensures.pipes w) k
