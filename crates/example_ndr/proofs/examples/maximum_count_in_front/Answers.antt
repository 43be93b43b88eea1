use Rattle.example_ndr.proofs.WorkedArrays.{count_in_front, size_disagrees}
use Rattle.example_ndr.proofs.examples.maximum_count_in_front.Goals as goal

pub returns-clause-stands : goal.returns-clause-stands
returns-clause-stands c = count_in_front

pub returns-clause-disagrees : goal.returns-clause-disagrees
returns-clause-disagrees c = size_disagrees
