use Rattle.ndr_code.proofs.Parted.{values_first, pipes_last}
use Rattle.ndr_code.proofs.laws.sides.roots_and_pipes.Goals as goal

pub returns : goal.returns
returns c = record { roots = λ w. values_first w; pipes = λ w. pipes_last w }
