use Rattle.ndr_trace.proofs.Worked.{miscounted_refused, miscounted_traced}
use Rattle.ndr_trace.proofs.examples.count_disagrees.Goals as goal

pub returns-clause-refused : goal.returns-clause-refused
returns-clause-refused c = miscounted_refused

pub returns-clause-traced : goal.returns-clause-traced
returns-clause-traced c = miscounted_traced
