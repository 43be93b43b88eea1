use Rattle.ndr_decoder_laws.proofs.stream.RootEnds as law
use Rattle.ndr_decoder_laws.proofs.laws.stream.roots_are_read.Goals as goal

pub returns : goal.returns
returns c = record {
  refused = λ w side order fetched noted direct b s seen n ag r there plain more a at so why e. law.root_refused w side order fetched noted direct b s seen n ag r there plain more a at so why e;
  goes = λ w side order fetched noted direct b s seen n ag r there plain added a. law.root_goes w side order fetched noted direct b s seen n ag r there plain added a;
  ends = λ w side order fetched noted direct b s seen n ag r there plain more a noted' x is needs g added k kept. (
    law.after w side order fetched noted direct b s seen n ag r there plain more a noted' x is needs,
    law.new w side order fetched noted direct b s seen n ag r there plain more a noted' x is needs,
    law.root_ends w side order fetched noted direct b s seen n ag r there plain more a noted' x is needs g added k kept,
  );
}
