use Rattle.ndr_decoder_laws.proofs.stream.Joined as law
use Rattle.ndr_decoder_laws.proofs.laws.stream.calls_are_joined.Goals as goal

pub returns : goal.returns
returns f = record {
  took = λ a b c s t u g n m k os ps xs ys x y. law.took_twice a b c s t u g n m k os ps xs ys x y;
  refused = λ a b c s t u g e w order fetched noted n m os xs x place why r. law.took_then_refused a b c s t u g e w order fetched noted n m os xs x place why r;
  unread = λ a b c s t u g e w order fetched noted n m os xs x r. law.took_then_unread a b c s t u g e w order fetched noted n m os xs x r;
  cut_off = λ a b c s t u g e w order fetched noted n m os xs x r. law.took_then_cut a b c s t u g e w order fetched noted n m os xs x r;
}
