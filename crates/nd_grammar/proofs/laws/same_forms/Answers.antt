use Rattle.nd_grammar.proofs.ChosenRepresents.{chosen_apart}
use Rattle.nd_grammar.proofs.written.SameForms.{same_written}
use Rattle.nd_grammar.proofs.laws.same_forms.Goals as goal

pub returns : goal.returns
returns c = record {
  same_octets = λ w side order chunk octets other g h k s o u. same_written w side g h k s order chunk octets other o u;
  same_graph = λ w side order chunk other octets g h p q k j o u. chosen_apart w side order chunk other octets g h p q k j o u;
}
