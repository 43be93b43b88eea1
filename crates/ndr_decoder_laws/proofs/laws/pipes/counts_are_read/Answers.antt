use Rattle.ndr_decoder_laws.proofs.pipes.Counts as law
use Rattle.ndr_decoder_laws.proofs.laws.pipes.counts_are_read.Goals as goal

pub returns : goal.returns
returns c = record {
  long = λ w order fetched noted direct first i rs roots elem done max_at k p long later a. law.count_long w order fetched noted direct first i rs roots elem done max_at k p long later a;
  cut = λ w order fetched noted direct first i rs roots elem done max_at k p os all less short. law.count_cut w order fetched noted direct first i rs roots elem done max_at k p os all less short;
  end = λ w order fetched noted direct first i rs roots elem done max_at k p os all size short zero_is. law.count_ends w order fetched noted direct first i rs roots elem done max_at k p os all size
      short zero_is;
  elements =
      λ w order fetched noted direct first i rs roots elem done max_at k p os all size short c some. law.count_goes_on w order fetched noted direct first i rs roots elem done max_at k p os all size
      short c some;
  adds = λ w order fetched noted direct first i rs roots elem done max_at k p later a. law.count_adds w order fetched noted direct first i rs roots elem done max_at k p later a;
}
