use Rattle.idl_grammar.proofs.FileLaws as laws
use Rattle.idl_grammar.proofs.laws.file_is_judged.Goals as goal

pub returns : goal.returns
returns c = record { judged = laws.file_judged; alone = laws.file_alone }
