use Rattle.acf_reader.proofs.Harmless.{never_deep}
use Rattle.acf_reader.proofs.laws.nothing_is_too_deep.Goals as goal

pub returns : goal.returns
returns c = never_deep
