use Rattle.ndr_encoder_laws.proofs.shaped.Homes.{homes_shaped, pipes_shaped}
use Rattle.ndr_encoder_laws.proofs.laws.shaped.values_are_shaped.Goals as goal

pub returns-clause-homes : goal.returns-clause-homes
returns-clause-homes c = homes_shaped

pub returns-clause-pipes : goal.returns-clause-pipes
returns-clause-pipes c = pipes_shaped
