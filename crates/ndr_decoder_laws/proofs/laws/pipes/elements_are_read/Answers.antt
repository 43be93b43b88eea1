use Rattle.ndr_decoder_laws.proofs.pipes.Elements as law
use Rattle.ndr_decoder_laws.proofs.pipes.ElementsEnd as ending
use Rattle.ndr_decoder_laws.proofs.laws.pipes.elements_are_read.Goals as goal

pub returns : goal.returns
returns c = record {
  begin = λ w side order fetched noted direct first i rs roots pipe elem done max_at c r m k parts there p values code planned fine x o. law.elements_begin w side order fetched noted direct first i
      rs roots pipe elem done max_at c r m k parts there p values code planned fine x o;
  refused =
      λ w side order fetched noted direct first i rs roots pipe elem done max_at c r m k parts there p later a at seen why e. law.elements_refused w side order fetched noted direct first i rs roots
      pipe elem done max_at c r m k parts there p later a at seen why e;
  adds = λ w side order fetched noted direct first i rs roots pipe elem done max_at c r m k parts there p later a. law.elements_add w side order fetched noted direct first i rs roots pipe elem done
      max_at c r m k parts there p later a;
  come = λ w side order fetched noted direct first i rs roots pipe elem done max_at c r m k parts there p later a. law.elements_come w side order fetched noted direct first i rs roots pipe elem done
      max_at c r m k parts there p later a;
  end = λ w side order fetched noted direct first i rs roots pipe elem done max_at c k there p next all noted' x is needs fine. ending.elements_end w side order fetched noted direct first i rs roots
      pipe elem done max_at c k there p next all noted' x is needs fine;
  few = λ v ks nodes e f few. ending.not_whole v ks nodes e f few;
}
