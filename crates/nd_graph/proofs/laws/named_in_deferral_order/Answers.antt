use Rattle.nd_graph.proofs.NamingOrder as naming
use Rattle.nd_graph.proofs.laws.named_in_deferral_order.Goals as goal

pub returns-clause-named : goal.returns-clause-named
returns-clause-named c w side g k steps d = naming.named_in_order w side g k steps d

pub returns-clause-canon : goal.returns-clause-canon
returns-clause-canon c f d k i o there = naming.canon_of_fit f d k i o there
