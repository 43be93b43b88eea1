use Rattle.nd_misfits.proofs.Disagreements as laws
use Rattle.nd_misfits.proofs.laws.fourth_pass_by_homes.Goals as goal

pub returns : goal.returns
returns c = laws.disagreeing_first
