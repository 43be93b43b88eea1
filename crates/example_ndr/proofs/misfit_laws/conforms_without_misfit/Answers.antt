use Rattle.example_ndr.proofs.WithoutMisfit as without
use Rattle.example_ndr.proofs.misfit_laws.conforms_without_misfit.Goals as goal

pub returns : goal.returns
returns c = without.conforms_without_misfit
