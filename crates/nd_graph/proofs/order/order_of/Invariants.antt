use Rattle.std.proofs.Common.{◌≡◌, []}
use Rattle.nd_graph.specs.Order.{ordering}
use Rattle.nd_graph.proofs.Ordered.{Ordered, visits_left}
use Rattle.nd_graph.proofs.order.order_of.Given as goal

abbrev pub invariant-loop-home : goal.invariant-loop-home
invariant-loop-home l = record {
  ordered : Ordered l.graph (ordering l.order.numbers.items l.order.cells.items l.stands.items l.due.items);
  met : l.met.items ≡ [];
}

abbrev pub decreases-loop-home : goal.decreases-loop-home
decreases-loop-home l = visits_left l.graph (ordering l.order.numbers.items l.order.cells.items l.stands.items l.due.items)
