use Rattle.acf_reader.proofs.AcfLaws as laws
use Rattle.acf_reader.proofs.laws.tokens_are_no_end.Goals as goal

pub returns : goal.returns
returns c = laws.lexemes_real
