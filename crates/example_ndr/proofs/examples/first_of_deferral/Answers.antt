use Rattle.example_ndr.proofs.WorkedPointers.{first_of_deferral, shared_leaf_written}
use Rattle.example_ndr.proofs.examples.first_of_deferral.Goals as goal

pub returns-clause-stands : goal.returns-clause-stands
returns-clause-stands c = first_of_deferral

pub returns-clause-written : goal.returns-clause-written
returns-clause-written c = shared_leaf_written
