use Rattle.idl_cycles.specs.GraphCycles.{ArePeeled}
use Rattle.idl_cycles.proofs.graph.cycles.pass.Given as goal

abbrev pub invariant-loop-node : goal.invariant-loop-node
invariant-loop-node l = ArePeeled l.graph l.peeled
