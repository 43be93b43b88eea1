use Rattle.ndr_decoder_laws.proofs.stream.FewReferences as law
use Rattle.ndr_decoder_laws.proofs.laws.stream.references_are_few.Goals as goal

pub returns : goal.returns
returns c = record {
  now = λ w side order fetched noted direct b s seen ps n ag. law.few_now w side order fetched noted direct b s seen ps n ag;
  next = λ w side order fetched noted direct b s seen ps n ag r there is. law.few_next w side order fetched noted direct b s seen ps n ag r there is;
}
