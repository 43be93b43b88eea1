use Rattle.std.proofs.Common.{rules}
use Rattle.idl_cycles.proofs.GraphSearching.{comes_more}
use Rattle.idl_cycles.proofs.graph.cycles.Search.come_to_all.Goals as goal

pub loop-part-preserved : goal.loop-part-preserved
loop-part-preserved c = comes_more c.args.number c.args.parts.now c.loop-part.part-index _ _ _ _ _ _ (search rules) c.loop-part.invariant c.in_ok-come_to.ensures
