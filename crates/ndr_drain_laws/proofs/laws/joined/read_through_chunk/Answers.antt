use Rattle.ndr_drain_laws.proofs.joined.Stopped.{read_through_chunk}
use Rattle.ndr_drain_laws.proofs.laws.joined.read_through_chunk.Goals as goal

pub returns : goal.returns
returns c = read_through_chunk
