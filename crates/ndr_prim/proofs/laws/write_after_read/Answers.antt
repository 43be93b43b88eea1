use Rattle.nd_types.proofs.NumberLaws as numbers
use Rattle.ndr_prim.proofs.laws.write_after_read.Goals as goal

pub returns : goal.returns
returns c = numbers.write_after_read
