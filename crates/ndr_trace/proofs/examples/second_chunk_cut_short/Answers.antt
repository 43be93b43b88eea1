use Rattle.ndr_trace.proofs.Worked.{piped_refused, piped_traced}
use Rattle.ndr_trace.proofs.examples.second_chunk_cut_short.Goals as goal

pub returns-clause-refused : goal.returns-clause-refused
returns-clause-refused c = piped_refused

pub returns-clause-traced : goal.returns-clause-traced
returns-clause-traced c = piped_traced
