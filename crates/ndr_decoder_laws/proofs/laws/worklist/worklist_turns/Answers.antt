use Rattle.ndr_decoder_laws.proofs.worklist.Turns as law
use Rattle.ndr_decoder_laws.proofs.laws.worklist.worklist_turns.Goals as goal

pub returns : goal.returns
returns c = record {
  begins = λ w order. law.begins w order;
  turns = λ w side order fetched more a b s t d ds r e f. law.turns w side order fetched more a b s t d ds r e f;
}
