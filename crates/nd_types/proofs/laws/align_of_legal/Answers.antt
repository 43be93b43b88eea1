use Rattle.nd_types.proofs.LayoutLaws as laws
use Rattle.nd_types.proofs.laws.align_of_legal.Goals as goal

pub returns : goal.returns
returns c = laws.align_of-legal
