use Rattle.ndr_decoder_laws.proofs.stream.DirectEnds as law
use Rattle.ndr_decoder_laws.proofs.laws.stream.references_are_read.Goals as goal

pub returns : goal.returns
returns c = record {
  refused =
      λ w side order fetched noted direct b s seen n ag r there to refers more a at so why e. law.direct_refused w side order fetched noted direct b s seen n ag r there to refers more a at so why e;
  goes = λ w side order fetched noted direct b s seen n ag r there to refers added a. law.direct_goes w side order fetched noted direct b s seen n ag r there to refers added a;
  ends = λ w side order fetched noted direct b s seen n ag r there to refers more a noted' x is needs root own cell k kept read is_read g filled. (
    law.after w side order fetched noted direct b s seen n ag r there to refers more a noted' x is needs,
    law.made w side order fetched noted direct b s seen n ag r there to refers more a noted' x is needs,
    law.direct_ends w side order fetched noted direct b s seen n ag r there to refers more a noted' x is needs root own cell k kept read is_read g filled,
  );
}
