use Rattle.example_ndr.proofs.WorkedPointers.{full_shared, other_referent_type}
use Rattle.example_ndr.proofs.examples.one_full_number.Goals as goal

pub returns-clause-shared : goal.returns-clause-shared
returns-clause-shared c = full_shared

pub returns-clause-other_type : goal.returns-clause-other_type
returns-clause-other_type c = other_referent_type
