use Rattle.nd_fit.specs.Reach.{searched, Searching}
use Rattle.nd_fit.proofs.reach.from_cells.Given as goal

abbrev pub invariant-loop-at : goal.invariant-loop-at
invariant-loop-at l = Searching l.graph l.graph.roots (searched l.marks.items l.queue.items) l.at
