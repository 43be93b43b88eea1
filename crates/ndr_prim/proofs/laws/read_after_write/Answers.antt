use Rattle.nd_types.proofs.NumberLaws as numbers
use Rattle.ndr_prim.proofs.laws.read_after_write.Goals as goal

pub returns : goal.returns
returns c = numbers.read_after_write
