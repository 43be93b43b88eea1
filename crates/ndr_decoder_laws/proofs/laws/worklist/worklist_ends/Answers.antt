use Rattle.ndr_decoder_laws.proofs.worklist.Turns as law
use Rattle.ndr_decoder_laws.proofs.laws.worklist.worklist_ends.Goals as goal

pub returns : goal.returns
returns c = record {
  over = λ w order fetched s r e later a. law.over w order fetched s r e later a;
  in_head = λ w side order fetched all s d ds r e later a at seen why f. law.head_refused w side order fetched all s d ds r e later a at seen why f;
  refused = λ w side order fetched all s d ds r e later a at seen why f. law.refused w side order fetched all s d ds r e later a at seen why f;
}
