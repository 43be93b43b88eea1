use Rattle.ndr_drain_laws.proofs.reader.Meeting.{count_long, count_refused, count_cut, count_end}
use Rattle.ndr_drain_laws.proofs.laws.reader.counts_are_met.Goals as goal

pub returns-clause-long : goal.returns-clause-long
returns-clause-long c = count_long

pub returns-clause-refused : goal.returns-clause-refused
returns-clause-refused c = count_refused

pub returns-clause-cut : goal.returns-clause-cut
returns-clause-cut c = count_cut

pub returns-clause-end : goal.returns-clause-end
returns-clause-end c = count_end
