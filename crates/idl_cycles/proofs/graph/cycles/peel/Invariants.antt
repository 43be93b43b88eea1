use Rattle.idl_cycles.specs.GraphCycles.{ArePeeled}
use Rattle.idl_cycles.proofs.graph.cycles.peel.Given as goal

abbrev pub invariant-loop : goal.invariant-loop
invariant-loop l = ArePeeled l.graph l.peeled.items
