use Rattle.std.proofs.Common.{◌+◌}
use Rattle.idl_cycles.specs.Graph.{IsLeast}
use Rattle.idl_cycles.specs.GraphCycles.{IsReady}
use Rattle.idl_cycles.proofs.graph.cycles.least_key.Given as goal

abbrev pub invariant-loop-node : goal.invariant-loop-node
invariant-loop-node l = IsReady l.graph (l.node + 1) l.search.seen.items × IsLeast l.graph l.keys l.node l.least
