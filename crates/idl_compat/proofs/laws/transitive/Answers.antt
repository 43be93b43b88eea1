use Rattle.idl_compat.proofs.Composed as composed
use Rattle.idl_compat.proofs.laws.transitive.Goals as goal

pub returns : goal.returns
returns c first second third m n a b = (composed.through m n, composed.composed first second third m n a b)
