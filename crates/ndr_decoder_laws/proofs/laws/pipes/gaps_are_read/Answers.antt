use Rattle.ndr_decoder_laws.proofs.pipes.PipeEntries as law
use Rattle.ndr_decoder_laws.proofs.laws.pipes.gaps_are_read.Goals as goal

pub returns : goal.returns
returns c = record {
  cut = λ w order fetched noted direct first i rs roots elem done max_at k p os all less. law.gap_cut w order fetched noted direct first i rs roots elem done max_at k p os all less;
  passes = λ w order fetched noted direct first i rs roots elem done max_at k p os all size. law.gap_passes w order fetched noted direct first i rs roots elem done max_at k p os all size;
  adds = λ w order fetched noted direct first i rs roots elem done max_at k p later a. law.chunk_goes w order fetched noted direct first i rs roots elem done max_at k p later a;
}
