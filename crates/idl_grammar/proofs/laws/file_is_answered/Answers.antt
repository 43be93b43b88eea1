use Rattle.idl_grammar.proofs.FileLaws as laws
use Rattle.idl_grammar.proofs.laws.file_is_answered.Goals as goal

pub returns : goal.returns
returns c = record { answered = laws.file_answered; alone = laws.file_answered_alone }
