use Rattle.nd_base.specs.declared.octets.Order.TheVariants.{Little}
use Rattle.nd_types.specs.declared.types.Side.TheVariants.{In}
use Rattle.ndr_drain_reader.specs.Seen.{intake_seen}
use Rattle.test_drain.proofs.Calls.{at_head, begins, after_head}
use Rattle.test_drain.proofs.intake.begun.Goals as goal

pub head-requires-clause-begun : goal.head-requires-clause-begun
head-requires-clause-begun c = at_head c.args.plan.now.tie 0 In Little (intake_seen c.in_ok-intake.intake) c.requires.known c.in_ok-intake.ensures.begun

pub returns-clause-reading : goal.returns-clause-reading
returns-clause-reading c =
    after_head _ _ _ (intake_seen c.in_ok-intake.intake) (intake_seen c.head.new.self)
    (begins c.args.plan.now.tie 0 In Little (intake_seen c.in_ok-intake.intake) c.requires.known c.in_ok-intake.ensures.begun) c.in_ok-head.ensures.read
