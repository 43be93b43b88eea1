use Rattle.nd_grammar.proofs.OneGraph as laws
use Rattle.nd_grammar.proofs.laws.one_graph.Goals as goal

pub returns : goal.returns
returns c = laws.one_graph
