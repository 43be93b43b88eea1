use Rattle.ndr_decoder_laws.proofs.steps.ChunkBegins.{begins_chunk}
use Rattle.ndr_decoder_laws.proofs.laws.steps.chunks_begin.Goals as goal

pub returns : goal.returns
returns c = λ order fetched code values table h pipe elem noted direct planned s done n seen names there fine begins at_pc.
    begins_chunk order fetched code values table h pipe elem noted direct planned s done n seen names there fine begins at_pc
