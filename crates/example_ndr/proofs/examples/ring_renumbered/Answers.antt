use Rattle.example_ndr.proofs.WorkedPointers.{ring_canonical}
use Rattle.example_ndr.proofs.examples.ring_renumbered.Goals as goal

pub returns : goal.returns
returns c = ring_canonical
