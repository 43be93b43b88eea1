use Rattle.nd_value.specs.Seen.{cell_number}
use Rattle.nd_value.specs.Canon.{target}
use Rattle.nd_graph.specs.Order.{Numbering, numbering}
use Rattle.nd_graph.proofs.Walks.{name_on, met_on, have_first, have_rest}
use Rattle.nd_graph.proofs.order.name_all.Goals as goal

pub name_one-requires : goal.name_one-requires
name_one-requires c =
    have_first c.loop-cell.order.numbers.items c.loop-cell.order.cells.items c.loop-cell.walk c.next_cell.new.self (target (cell_number c.in-Some.cell))
    c.in-Some.ensures.some c.loop-cell.invariant.have

pub loop-cell-preserved : goal.loop-cell-preserved
loop-cell-preserved c =
    let s : Numbering = numbering c.loop-cell.order.numbers.items c.loop-cell.order.cells.items in
    let r : Numbering = numbering c.name_one.new.order.numbers.items c.name_one.new.order.cells.items in
    let xs = target (cell_number c.in-Some.cell) in
    record {
      have = have_rest s r c.loop-cell.walk c.next_cell.new.self xs c.in-Some.ensures.some c.in_ok-name_one.ensures.order c.loop-cell.invariant.have;
      order = name_on c.loop-cell.walk c.next_cell.new.self xs s r _ c.in-Some.ensures.some c.in_ok-name_one.ensures.order c.loop-cell.invariant.order;
      met = met_on c.loop-cell.walk c.next_cell.new.self xs c.loop-cell.met.items c.name_one.new.met.items _ c.in-Some.ensures.some c.in_ok-name_one.ensures.met c.loop-cell.invariant.met;
    }
