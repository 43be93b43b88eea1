use Rattle.acf_reader.proofs.AcfLaws as laws
use Rattle.acf_reader.proofs.laws.acf_is_answered.Goals as goal

pub returns : goal.returns
returns c = record { answered = laws.acf_answered; alone = laws.acf_answered_alone }
