use Rattle.std.proofs.Common.{arith}
use Rattle.ndr_drain_reader.proofs.SidePipes.{count_begins, counted_calls, counted_few, none_more, one_more, past_lines}
use Rattle.ndr_drain_reader.proofs.pipes.count_pipes.Goals as goal

pub loop-next-init : goal.loop-next-init
loop-next-init c = λ o there. count_begins c.args.plan.now c.args.op c.args.side o there c.args.line (c.requires.line o there)

pub elements_run-requires-clause-pipe : goal.elements_run-requires-clause-pipe
elements_run-requires-clause-pipe c = counted_calls c.args.plan.now c.args.op c.args.side c.loop-next.next c.loop-next.count c.requires.known c.loop-next.invariant

pub returns-in_default : goal.returns-in_default
returns-in_default c o there = none_more c.args.plan.now c.args.op c.args.side o there c.loop-next.next c.loop-next.count (c.loop-next.invariant o there) (c.in_default.ensures)

pub overflow_add-count : goal.overflow_add-count
overflow_add-count c =
    let few = counted_few c.args.plan.now c.args.op c.args.side c.loop-next.next c.loop-next.count c.requires.known c.loop-next.invariant in
    omega (arith, few)

pub loop-next-preserved : goal.loop-next-preserved
loop-next-preserved c = λ o there. one_more c.args.plan.now c.args.op c.args.side o there c.loop-next.next c.loop-next.count (c.loop-next.invariant o there) c.in-Some._elem c.in-Some.ensures

pub returns : goal.returns
returns c o there =
    past_lines c.args.plan.now c.args.op c.args.side o there c.loop-next.next c.loop-next.count (c.loop-next.invariant o there)
    (let past = c.loop-next-test.false in let many = c.len-next-end.ensures in omega (arith, past, many))
