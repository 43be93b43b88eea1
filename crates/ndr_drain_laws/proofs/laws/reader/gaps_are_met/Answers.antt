use Rattle.ndr_drain_laws.proofs.reader.Meeting.{gap_refused, gap_cut}
use Rattle.ndr_drain_laws.proofs.laws.reader.gaps_are_met.Goals as goal

pub returns-clause-refused : goal.returns-clause-refused
returns-clause-refused c = gap_refused

pub returns-clause-cut : goal.returns-clause-cut
returns-clause-cut c = gap_cut
