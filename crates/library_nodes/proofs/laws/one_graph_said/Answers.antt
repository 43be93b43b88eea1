use Rattle.library_nodes.proofs.OneGraph.{one_graph, no_graph}
use Rattle.library_nodes.proofs.laws.one_graph_said.Goals as goal

pub returns-clause-only : goal.returns-clause-only
returns-clause-only c = λ w l g h. one_graph w l g h

pub returns-clause-none : goal.returns-clause-none
returns-clause-none c = λ w l g n. no_graph w l g n
