use Rattle.text_grammar.proofs.Stated.{one_graph}
use Rattle.text_grammar.proofs.laws.one_graph.Goals as goal

pub returns : goal.returns
returns c = one_graph
