use Rattle.std.proofs.Common.{◌<◌, ◌-◌, arith}
use Rattle.nd_graph.specs.Alike.{number_by}
use Rattle.nd_graph.proofs.Compared.{cell_decided}
use Rattle.nd_graph.proofs.sameness.same_cell.Goals as goal

pub returns : goal.returns
returns c =
    let lo : 0 < c.args.mine.0 = c.requires.mine.0 in
    let lo' : 0 < c.args.other.0 = c.requires.other.0 in
    cell_decided (number_by c.args.left.now.numbers.items) (number_by c.args.right.now.numbers.items) c.args.a.now c.args.b.now c.args.mine.0 c.args.other.0
    (c.args.mine.0 - 1) (c.args.other.0 - 1) c.cell_type.result.0 c.cell_type-2.result.0 c.cell_walk-mine.result c.cell_walk-other.result c.same_nodes.result
    (omega (arith, lo)) (omega (arith, lo')) c.if-cell_type.false c.cell_type.ensures c.cell_type-2.ensures c.cell_walk-mine.ensures c.cell_walk-other.ensures c.same_nodes.ensures
