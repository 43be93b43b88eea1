use Rattle.example_ndr.proofs.WorkedPointers.{ring_conforms}
use Rattle.example_ndr.proofs.examples.ring_conforms.Goals as goal

pub returns : goal.returns
returns c = ring_conforms
