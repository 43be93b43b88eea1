use Rattle.ndr_drain_laws.proofs.joined.Stopped.{refused_chunk}
use Rattle.ndr_drain_laws.proofs.joined.Through.{place_after}
use Rattle.ndr_drain_laws.proofs.laws.joined.refused_chunk.Goals as goal

pub returns-clause-refuse : goal.returns-clause-refuse
returns-clause-refuse c = refused_chunk

pub returns-clause-place : goal.returns-clause-place
returns-clause-place c = place_after
