use Rattle.nd_grammar.proofs.OneRefusal.{one_bad}
use Rattle.nd_grammar.proofs.ReaderLaws.{one_of_two, never_both, one_beginning}
use Rattle.nd_grammar.proofs.laws.one_verdict.Goals as goal

pub returns : goal.returns
returns c = record {
  one_of_two = λ w side order octets all. one_of_two w side order octets all;
  never_both = λ w side order octets n g place why b bad. never_both w side order octets n g place why b bad;
  one_graph = λ w side order octets n m g h a b. one_beginning w side order octets n m g h a b;
  one_refusal = λ w side order octets place other why reason a b. one_bad w side order octets place other why reason a b;
}
