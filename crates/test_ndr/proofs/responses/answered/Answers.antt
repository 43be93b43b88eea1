use Rattle.std.proofs.Common.{refl}
use Rattle.test_ndr.proofs.responses.answered.Goals as goal

pub decoded-requires-clause-request : goal.decoded-requires-clause-request
decoded-requires-clause-request c = record { interface = c.requires.tied; op = c.requires.of_op; side = c.requires.of_side; judged = refl }
