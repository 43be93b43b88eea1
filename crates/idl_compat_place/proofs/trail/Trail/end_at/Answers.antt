use Rattle.idl_compat_place.proofs.Walked.{ends_at}
use Rattle.idl_compat_place.proofs.trail.Trail.end_at.Goals as goal

pub returns-clause-ends : goal.returns-clause-ends
returns-clause-ends c = λ old new k n base a l is u. ends_at old new k n base c.args.self.now c.args.number c.args.pair c.origin.result a l is c.origin.ensures u
