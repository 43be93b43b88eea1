use Rattle.ndr_trace.proofs.Worked.{shared_refused, shared_traced}
use Rattle.ndr_trace.proofs.examples.number_of_another_type.Goals as goal

pub returns-clause-refused : goal.returns-clause-refused
returns-clause-refused c = shared_refused

pub returns-clause-traced : goal.returns-clause-traced
returns-clause-traced c = shared_traced
