use Rattle.std.proofs.Common.{◌∙◌, sym}
use Rattle.nd_value.specs.Tree.{trees}
use Rattle.nd_misfits.proofs.NodeTests.{count_trees, array_fits, array_bound}
use Rattle.nd_misfits.proofs.node.array.Goals as goal

pub returns-in-Arr : goal.returns-in-Arr
returns-in-Arr c table g elem =
    let v = c.in-Arr in
    let tested = c.has_counts.ensures elem (trees v.items) (count_trees v.items ∙ sym c.len.ensures) in
    rw v.is (array_fits table g elem c.args.bound c.args.varying v.max v.offset (trees v.items) _ tested c.if-has_counts.true)

pub returns-in-Arr-2 : goal.returns-in-Arr-2
returns-in-Arr-2 c table g elem =
    let v = c.in-Arr in
    let tested = c.has_counts.ensures elem (trees v.items) (count_trees v.items ∙ sym c.len.ensures) in
    rw v.is (array_bound table g elem c.args.bound c.args.varying v.max v.offset (trees v.items) _ tested c.if-has_counts.false)
