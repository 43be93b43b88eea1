use Rattle.std.proofs.Common.{◌∙◌, ◌<◌, length, arith}
use Rattle.command_sample.proofs.Values.{one_more, within, all_summed}
use Rattle.command_sample.proofs.decoded.values_sum.Goals as goal

pub loop-at-init : goal.loop-at-init
loop-at-init c = omega arith

pub overflow_add-sum : goal.overflow_add-sum
overflow_add-sum c =
    let many = c.cell_count-at-end.ensures in
    let there = c.loop-at-test.true in
    let lt : c.loop-at.at < length c.args.graph.now.cells = omega (arith, many, there) in
    let small = within c.args.graph.now.cells c.loop-at.at c.loop-at.sum c.from-sum.result lt c.requires.few c.loop-at.invariant (c.from-sum.ensures ∙ c.value.ensures) in
    omega (arith, small)

pub loop-at-preserved : goal.loop-at-preserved
loop-at-preserved c =
    let many = c.cell_count-at-end.ensures in
    let there = c.loop-at-test.true in
    let lt : c.loop-at.at < length c.args.graph.now.cells = omega (arith, many, there) in
    one_more c.args.graph.now.cells c.loop-at.at c.loop-at.sum c.from-sum.result lt c.loop-at.invariant (c.from-sum.ensures ∙ c.value.ensures)

pub returns : goal.returns
returns c =
    let many = c.cell_count-at-end.ensures in
    let past = c.loop-at-test.false in
    all_summed c.args.graph.now.cells c.loop-at.at c.loop-at.sum (omega (arith, many, past)) c.loop-at.invariant
