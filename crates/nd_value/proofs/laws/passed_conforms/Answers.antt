use Rattle.nd_value.proofs.Misfits as m
use Rattle.nd_value.proofs.laws.passed_conforms.Goals as goal

pub returns : goal.returns
returns c = m.passed_conforms
