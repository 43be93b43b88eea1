use Rattle.std.proofs.Common.{◌≤◌, ◌<◌, ◌+◌, arith, length}
use Rattle.ndr_drain_reader.proofs.Places.{line_there, operation_of, root_small}
use Rattle.ndr_drain_reader.proofs.passing.pass_end.Goals as goal

pub overflow_add-intake : goal.overflow_add-intake
overflow_add-intake c =
    let (o, there) = operation_of c.args.intake.now c.requires.ready in
    let few : c.args.intake.now.root + 1 ≤ 513 = root_small c.args.intake.now c.requires.ready c.requires.pipe o there in
    omega (arith, few)

pub overflow_add-intake-2 : goal.overflow_add-intake-2
overflow_add-intake-2 c =
    let (o, there) = operation_of c.args.intake.now c.requires.ready in
    let below : c.args.intake.now.line < length c.args.intake.now.plan.now.entries = line_there c.args.intake.now c.requires.ready c.requires.pipe o there in
    omega (arith, below, c.len-lines.ensures)
