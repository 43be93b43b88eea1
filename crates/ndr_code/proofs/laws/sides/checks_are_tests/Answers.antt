use Rattle.ndr_code.proofs.TriedRoots.{checks_tried}
use Rattle.ndr_code.proofs.laws.sides.checks_are_tests.Goals as goal

pub returns : goal.returns
returns c = λ w g e. checks_tried w g e
