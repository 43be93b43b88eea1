use Rattle.example_ndr.proofs.WorkedUnions.{default_arm}
use Rattle.example_ndr.proofs.examples.union_default.Goals as goal

pub returns : goal.returns
returns c = default_arm
