use Rattle.std.proofs.Common.{◌-◌, arith}
use Rattle.ndr_drain_reader.proofs.SidePipes.{found_after}
use Rattle.ndr_drain_reader.proofs.pipes.find_pipes.Goals as goal

pub overflow_sub-result : goal.overflow_sub-result
overflow_sub-result c =
    let (low, high) = found_after c.args.plan.now c.args.op c.args.side c.first_line-first.result c.checks_line-checks.result c.requires.known c.checks_line-checks.ensures.at in
    omega (arith, low)

pub overflow_cast-result : goal.overflow_cast-result
overflow_cast-result c =
    let (low, high) = found_after c.args.plan.now c.args.op c.args.side c.first_line-first.result c.checks_line-checks.result c.requires.known c.checks_line-checks.ensures.at in
    omega (arith, low, high)

pub overflow_add-checks : goal.overflow_add-checks
overflow_add-checks c = let room = c.checks_line-checks.ensures.room in omega (arith, room)

pub overflow_add-result : goal.overflow_add-result
overflow_add-result c = let room = c.checks_line-checks.ensures.room in omega (arith, room)

pub returns : goal.returns
returns c o there =
    let at = c.checks_line-checks.ensures.at o there in
    let first = c.first_line-first.ensures o there in
    let all = c.count_pipes.ensures o there in
    record { values = omega (arith, at); all = omega (arith, at, all); line = omega (arith, at, first) }
