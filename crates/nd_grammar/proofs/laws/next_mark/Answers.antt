use Rattle.nd_value.proofs.NodeFacts.{sound_partial}
use Rattle.nd_grammar.proofs.next.NextIndex as laws
use Rattle.nd_grammar.proofs.laws.next_mark.Goals as goal

pub returns : goal.returns
returns c = record {
  alike = λ w side order octets g h s s' ms ns a b i r r'. (laws.next_mark w side order octets g h (sound_partial w g s) (sound_partial w h s') ms ns a b i r r').0;
  homes = λ w side order octets g h s s' ms ns a b i r r'.
      (let (cells, one, homes, names) = (laws.next_mark w side order octets g h (sound_partial w g s) (sound_partial w h s') ms ns a b i r r').1 in
      (cells, one, homes));
  named = λ w side order octets g h s s' ms ns a b i r r'. (laws.next_mark w side order octets g h (sound_partial w g s) (sound_partial w h s') ms ns a b i r r').1;
}
