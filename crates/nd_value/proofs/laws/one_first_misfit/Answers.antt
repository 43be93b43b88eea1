use Rattle.nd_value.proofs.Misfits as m
use Rattle.nd_value.proofs.laws.one_first_misfit.Goals as goal

pub returns : goal.returns
returns c = m.one_first_misfit
