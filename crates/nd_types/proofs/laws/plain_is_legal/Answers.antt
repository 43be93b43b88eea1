use Rattle.nd_types.proofs.PlainLaws as plain
use Rattle.nd_types.proofs.laws.plain_is_legal.Goals as goal

pub returns : goal.returns
returns c = plain.plain_is_legal
