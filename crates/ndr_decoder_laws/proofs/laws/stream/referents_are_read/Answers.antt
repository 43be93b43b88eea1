use Rattle.ndr_decoder_laws.proofs.stream.ReferentEnds as law
use Rattle.ndr_decoder_laws.proofs.laws.stream.referents_are_read.Goals as goal

pub returns : goal.returns
returns c = record {
  refused = λ w side order fetched noted direct b s seen p ps n ag c e new more a at so why f. law.referent_refused w side order fetched noted direct b s seen p ps n ag c e new more a at so why f;
  goes = λ w side order fetched noted direct b s seen p ps n ag c e new added a. law.referent_goes w side order fetched noted direct b s seen p ps n ag c e new added a;
  disagrees = λ w side order fetched noted direct b s seen p ps n ag c e new more a noted' x is needs k own ws d others why split agree f.
      law.disagrees w side order fetched noted direct b s seen p ps n ag c e new more a noted' x is needs k own ws d others why split agree f;
  ends = λ w side order fetched noted direct b s seen p ps n ag c e new more a noted' x is needs k own agree read is_read g filled.
      law.ends w side order fetched noted direct b s seen p ps n ag c e new more a noted' x is needs k own agree read is_read g filled;
}
