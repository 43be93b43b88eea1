use Rattle.nd_grammar.proofs.StaysBad as laws
use Rattle.nd_grammar.proofs.laws.refusal_stays.Goals as goal

pub returns : goal.returns
returns c = record {
  stays = λ w order octets more place why b other. laws.stays_bad w order octets more place why b other;
  excludes = λ w side order octets more place why b other g k r. laws.none_begins_so w side order octets more place why b other g k r;
}
