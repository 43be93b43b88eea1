use Rattle.ndr_decoder_laws.proofs.runs.ChunkSafe.{safe_in_chunk}
use Rattle.ndr_decoder_laws.proofs.laws.runs.chunks_are_safe.Goals as goal

pub returns : goal.returns
returns c = safe_in_chunk
