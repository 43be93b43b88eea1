use Rattle.nd_types.proofs.NumberRoots.{primitive_roots}
use Rattle.nd_types.proofs.laws.number_roots_are_primitives.Goals as goal

pub returns : goal.returns
returns c = primitive_roots
