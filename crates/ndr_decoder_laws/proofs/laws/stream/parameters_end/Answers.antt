use Rattle.ndr_decoder_laws.proofs.stream.HeadEnds as law
use Rattle.ndr_decoder_laws.proofs.laws.stream.parameters_end.Goals as goal

pub returns : goal.returns
returns c = record {
  pass = λ w side order fetched noted direct b s seen ag after goes later a. law.parameters_pass w side order fetched noted direct b s seen ag after goes later a;
  stop = λ w side order fetched noted direct b s seen ag after why stops later a. law.parameters_stop w side order fetched noted direct b s seen ag after why stops later a;
}
