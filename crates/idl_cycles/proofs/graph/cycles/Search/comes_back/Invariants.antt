use Rattle.idl_cycles.specs.GraphCycles.{Searches}
use Rattle.idl_cycles.proofs.graph.cycles.Search.comes_back.Given as goal

abbrev pub invariant-loop-head : goal.invariant-loop-head
invariant-loop-head l = Searches l.graph l.start l.number l.head l.self.seen.items l.self.queue.items
