use Rattle.example_ndr.proofs.WorkedPointers.{stray_unreached, null_reference, unique_shared}
use Rattle.example_ndr.proofs.examples.misfits.Goals as goal

pub returns-clause-unreached : goal.returns-clause-unreached
returns-clause-unreached c = stray_unreached

pub returns-clause-null_reference : goal.returns-clause-null_reference
returns-clause-null_reference c = null_reference

pub returns-clause-shared : goal.returns-clause-shared
returns-clause-shared c = unique_shared
