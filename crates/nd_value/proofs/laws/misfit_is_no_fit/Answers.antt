use Rattle.nd_value.proofs.Misfits as m
use Rattle.nd_value.proofs.laws.misfit_is_no_fit.Goals as goal

pub returns : goal.returns
returns c = m.misfit_is_no_fit
