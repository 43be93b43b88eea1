use Rattle.ndr_drain_reader.proofs.Places.{calls_pipe, has_entry, line_there, operation_of}
use Rattle.ndr_drain_reader.proofs.passing.next_run.Goals as goal

pub elements_run-requires-clause-there : goal.elements_run-requires-clause-there
elements_run-requires-clause-there c =
    let (o, there) = operation_of c.args.intake.now c.requires.ready in line_there c.args.intake.now c.requires.ready c.requires.pipe o there

pub elements_run-requires-clause-pipe : goal.elements_run-requires-clause-pipe
elements_run-requires-clause-pipe c =
    let (o, there) = operation_of c.args.intake.now c.requires.ready in calls_pipe c.args.intake.now c.requires.ready c.requires.pipe o there

pub unreachable-requires : goal.unreachable-requires
unreachable-requires c = let (o, there) = operation_of c.args.intake.now c.requires.ready in has_entry c.args.intake.now c.requires.ready c.requires.pipe o there c.in_default.ensures
