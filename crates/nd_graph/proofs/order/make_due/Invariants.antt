use Rattle.std.proofs.Common.{◌≡◌, ◌++◌, length, reverse}
use Rattle.nd_graph.specs.Naming.{cell_homes}
use Rattle.nd_graph.proofs.order.make_due.Given as goal

abbrev pub invariant-loop-cell : goal.invariant-loop-cell
invariant-loop-cell l = l.due.items ++ reverse (cell_homes l.met.items) ≡ l.initial.due.items ++ reverse (cell_homes l.initial.met.items)

abbrev pub decreases-loop-cell : goal.decreases-loop-cell
decreases-loop-cell l = length l.met.items
