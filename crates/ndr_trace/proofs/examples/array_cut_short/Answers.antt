use Rattle.ndr_trace.proofs.Worked.{cut_refused, cut_traced, in_gap_traced, between_traced}
use Rattle.ndr_trace.proofs.examples.array_cut_short.Goals as goal

pub returns-clause-refused : goal.returns-clause-refused
returns-clause-refused c = cut_refused

pub returns-clause-element : goal.returns-clause-element
returns-clause-element c = cut_traced

pub returns-clause-gap : goal.returns-clause-gap
returns-clause-gap c = in_gap_traced

pub returns-clause-between : goal.returns-clause-between
returns-clause-between c = between_traced
