use Rattle.nd_grammar.proofs.ReaderLaws.{reader_accepts, reader_refuses}
use Rattle.nd_grammar.proofs.laws.reader_is_right.Goals as goal

pub returns : goal.returns
returns c = record {
  accepts = λ w side order octets all e. reader_accepts w side order octets all e;
  refuses = λ w side order octets all place why e. reader_refuses w side order octets all place why e;
}
