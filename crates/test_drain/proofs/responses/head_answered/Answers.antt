use Rattle.nd_base.specs.declared.octets.Order.TheVariants.{Little}
use Rattle.nd_types.specs.declared.types.Side.TheVariants.{Out}
use Rattle.ndr_drain_reader.specs.Seen.{intake_seen}
use Rattle.test_drain.proofs.Calls.{at_head, asks}
use Rattle.test_drain.proofs.responses.head_answered.Goals as goal

pub head-requires-clause-begun : goal.head-requires-clause-begun
head-requires-clause-begun c = at_head c.args.plan.now.tie 0 Out Little (intake_seen c.in_ok-intake.intake) c.requires.known c.in_ok-intake.ensures.begun

pub head-requires-clause-request : goal.head-requires-clause-request
head-requires-clause-request c =
    asks c.args.plan.now.tie 0 Little (intake_seen c.in_ok-intake.intake) c.requires.known c.in_ok-intake.ensures.begun c.args.request.now.fit c.requires.of c.requires.of_op
    c.requires.of_side
