use Rattle.ndr_decoder_stream.proofs.GraphEnds as law
use Rattle.ndr_decoder_stream.proofs.laws.graphs_end.Goals as goal

pub returns : goal.returns
returns z = record {
  root = λ b n v r e. law.root_ends b n v r e;
  cell = λ b n c v r e above there. law.cell_ends b n c v r e above there;
}
