use Rattle.example_ndr.proofs.WorkedArrays.{count_through_structs}
use Rattle.example_ndr.proofs.examples.maximum_count_through_structs.Goals as goal

pub returns : goal.returns
returns c = count_through_structs
