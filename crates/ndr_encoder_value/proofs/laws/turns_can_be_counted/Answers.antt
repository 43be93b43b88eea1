use Rattle.ndr_encoder_value.proofs.Counts.{all_counted, homes_named, pipes_nameless}
use Rattle.ndr_encoder_value.proofs.laws.turns_can_be_counted.Goals as goal

pub returns-clause-counted : goal.returns-clause-counted
returns-clause-counted c w side g conforms k n is steps d some = all_counted w side g conforms (c.roots_and_pipes.ensures.pipes w) k n is some steps d

pub returns-clause-homes : goal.returns-clause-homes
returns-clause-homes c w side g conforms k = homes_named w side g conforms k

pub returns-clause-pipes : goal.returns-clause-pipes
returns-clause-pipes c w side g conforms k n is some = pipes_nameless w side g conforms (c.roots_and_pipes.ensures.pipes w) k n is some
