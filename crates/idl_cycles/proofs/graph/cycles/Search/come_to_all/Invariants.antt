use Rattle.std.proofs.Common.{take}
use Rattle.idl_cycles.specs.GraphCycles.{Comes}
use Rattle.idl_cycles.proofs.graph.cycles.Search.come_to_all.Given as goal

abbrev pub invariant-loop-part : goal.invariant-loop-part
invariant-loop-part l = Comes l.number (take l.part-index l.parts) l.initial.self.seen.items l.initial.self.queue.items l.self.seen.items l.self.queue.items
