use Rattle.ndr_trace.proofs.Worked.{armless_refused, armless_traced}
use Rattle.ndr_trace.proofs.examples.tag_without_arm.Goals as goal

pub returns-clause-refused : goal.returns-clause-refused
returns-clause-refused c = armless_refused

pub returns-clause-traced : goal.returns-clause-traced
returns-clause-traced c = armless_traced
