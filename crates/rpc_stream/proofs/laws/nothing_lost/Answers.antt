use Rattle.rpc_stream.proofs.Interleaving.{lost_none, each_in_one}
use Rattle.rpc_stream.proofs.laws.nothing_lost.Goals as goal

pub returns-clause-by_id : goal.returns-clause-by_id
returns-clause-by_id c id ps = lost_none id ps

pub returns-clause-of_side : goal.returns-clause-of_side
returns-clause-of_side c side ps = each_in_one side ps
