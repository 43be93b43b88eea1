use Rattle.nd_types.proofs.PlainLaws as plain
use Rattle.nd_types.proofs.laws.plain_roots_in.Goals as goal

pub returns : goal.returns
returns c = plain.plain_roots_in
