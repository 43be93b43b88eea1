use Rattle.example_idl.proofs.WindowsJudged as laws
use Rattle.example_idl.proofs.laws.windows_texts_are_judged.Goals as goal

pub returns : goal.returns
returns c = record { broken = laws.windows_broken; kept = laws.windows_kept }
