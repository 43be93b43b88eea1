use Rattle.std.proofs.Common.{◌≡◌, ◌++◌, length}
use Rattle.nd_value.specs.Tree.{flat}
use Rattle.nd_value.specs.Names.{cells_in}
use Rattle.nd_graph.specs.Order.{numbering, name, HaveNumbers}
use Rattle.nd_graph.proofs.order.name_plain.Given as goal

abbrev pub invariant-loop-cell : goal.invariant-loop-cell
invariant-loop-cell l = record {
  have : HaveNumbers l.order.numbers.items l.order.cells.items (cells_in l.walk);
  order : name (cells_in l.walk) (numbering l.order.numbers.items l.order.cells.items)
      ≡ name (cells_in l.initial.walk) (numbering l.initial.order.numbers.items l.initial.order.cells.items);
  met : l.met.items ++ cells_in l.walk ≡ l.initial.met.items ++ cells_in l.initial.walk;
}

abbrev pub decreases-loop-cell : goal.decreases-loop-cell
decreases-loop-cell l = length (flat l.walk)
