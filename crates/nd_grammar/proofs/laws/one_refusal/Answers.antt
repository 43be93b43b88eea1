use Rattle.nd_grammar.proofs.Excluded.{excluded}
use Rattle.nd_grammar.proofs.OneRefusal.{one_bad}
use Rattle.nd_grammar.proofs.laws.one_refusal.Goals as goal

pub returns : goal.returns
returns c = record {
  alone = λ w side order octets place other why reason a b. one_bad w side order octets place other why reason a b;
  excludes = λ w side order octets place why b part rest e g k r. excluded w side order octets place why b part rest e g k r;
}
