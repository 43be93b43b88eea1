use Rattle.ndr_decoder_laws.proofs.stream.OtherTurns as law
use Rattle.ndr_decoder_laws.proofs.laws.stream.referents_are_passed.Goals as goal

pub returns : goal.returns
returns c = record {
  null = λ w side order fetched noted direct b s seen p ps n ag e. law.passes_null w side order fetched noted direct b s seen p ps n ag e;
  read = λ w side order fetched noted direct b s seen p ps n ag c e full k known agree. law.passes_read w side order fetched noted direct b s seen p ps n ag c e full k known agree;
  disagrees = λ w side order fetched noted direct b s seen p ps n ag c e full k known ws d others why split agree f.
      law.disagrees w side order fetched noted direct b s seen p ps n ag c e full k known ws d others why split agree f;
}
