use Rattle.std.proofs.Common.{[]}
use Rattle.ndr_decoder_laws.proofs.pipes.PipesBegin as law
use Rattle.ndr_decoder_laws.proofs.laws.pipes.pipes_are_read.Goals as goal

pub returns : goal.returns
returns c = record {
  begin = λ w side order fetched noted direct b s after octets keeps roots_are needed goes. law.pipes_begin w side order fetched noted direct b s after octets keeps roots_are needed goes;
  next = λ w order fetched noted direct first i rs roots k r elem there p. law.pipe_begins w order fetched noted direct first i rs roots k r elem there p;
  adds = λ w order fetched noted direct first i rs roots k p later a. law.pipes_add w order fetched noted direct first i rs roots k p later a;
  end = λ w order fetched noted direct first i roots k p. law.pipes_end w order fetched noted direct first i [] roots k p;
}
