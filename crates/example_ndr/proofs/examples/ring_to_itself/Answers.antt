use Rattle.example_ndr.proofs.WorkedPointers.{ring_to_itself}
use Rattle.example_ndr.proofs.examples.ring_to_itself.Goals as goal

pub returns : goal.returns
returns c = ring_to_itself
