use Rattle.ndr_decoder_laws.proofs.stream.Heads as head_law
use Rattle.ndr_decoder_laws.proofs.stream.Reports as law
use Rattle.ndr_decoder_laws.proofs.laws.stream.streams_are_reported.Goals as goal

pub returns : goal.returns
returns c = record {
  decoded = λ w side order s t fetched all seen noted g count e f i left n l st. law.decoded_report w side order s t fetched all seen noted g count e f i left n l st;
  refused = λ w side order s t fetched noted n place why r reported left ended none_left. law.refused_report w side order s t fetched noted n place why r reported left ended none_left;
  unread = λ w side order s t fetched noted n r reported left. law.unread_report w side order s t fetched noted n r reported left;
  cut_off = λ w side order s t fetched noted n r reported left. law.cut_report w side order s t fetched noted n r reported left;
  of_head = λ w order octets x noted n place why r. head_law.refused_stream w order octets x noted n place why r;
  cut_head = λ w order octets x noted n r. head_law.cut_stream w order octets x noted n r;
}
