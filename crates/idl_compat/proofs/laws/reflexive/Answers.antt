use Rattle.idl_compat.proofs.Composed as composed
use Rattle.idl_compat.proofs.laws.reflexive.Goals as goal

pub returns : goal.returns
returns c i u e = composed.with_itself i u e
