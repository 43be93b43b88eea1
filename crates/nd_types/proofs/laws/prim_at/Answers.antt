use Rattle.nd_types.proofs.LegalLaws as laws
use Rattle.nd_types.proofs.laws.prim_at.Goals as goal

pub returns : goal.returns
returns c = laws.prim_at
