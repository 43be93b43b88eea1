use Rattle.example_ndr.proofs.WorkedUnions.{pipe_in_chunks, chunks_written, pipe_cut}
use Rattle.example_ndr.proofs.examples.pipe_in_chunks.Goals as goal

pub returns-clause-chunks : goal.returns-clause-chunks
returns-clause-chunks c = pipe_in_chunks

pub returns-clause-written : goal.returns-clause-written
returns-clause-written c = chunks_written

pub returns-clause-cut : goal.returns-clause-cut
returns-clause-cut c = pipe_cut
