use Rattle.ndr_decoder_laws.proofs.stream.Growing as whole_law
use Rattle.ndr_decoder_laws.proofs.stream.StateAdds as state_law
use Rattle.ndr_decoder_laws.proofs.stream.StreamGrows as stream_law
use Rattle.ndr_decoder_laws.proofs.laws.stream.reading_adds.Goals as goal

pub returns : goal.returns
returns c = record {
  whole = λ order octets table h t p s. whole_law.whole_adds order octets table h t p s;
  state = λ order fetched code table h own limit noted direct target s g later. state_law.state_adds order fetched code table h own limit noted direct target s g later;
  head = λ w order fetched s r later a. stream_law.head_goes w order fetched s r later a;
  next = λ w side order fetched all s d ds e r later a. stream_law.next_then_head w side order fetched all s d ds e r later a;
  pipes = λ w order octets. stream_law.head_then_stream w order octets;
}
