use Rattle.nd_types.proofs.LayoutLaws as laws
use Rattle.nd_types.proofs.laws.hoists_legal.Goals as goal

pub returns : goal.returns
returns c = laws.hoists-legal
