use Rattle.nd_grammar.proofs.ChosenRepresents.{chosen_represents, chosen_exists, chosen_alone}
use Rattle.nd_grammar.proofs.laws.chosen_octets.Goals as goal

pub returns : goal.returns
returns c = record {
  exist = λ w order chunk g k. chosen_exists w order chunk g k;
  alone = λ w order chunk g octets other o u. chosen_alone w order chunk g octets other o u;
  represent = λ w side order chunk octets g p k o l. chosen_represents w side g k order chunk p octets o l;
}
