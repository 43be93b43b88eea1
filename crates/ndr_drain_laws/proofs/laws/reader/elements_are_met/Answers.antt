use Rattle.ndr_drain_laws.proofs.reader.Meeting.{elements_begin, elements_safe, elements_whole, elements_refused, elements_cut, elements_pipe}
use Rattle.ndr_drain_laws.proofs.laws.reader.elements_are_met.Goals as goal

pub returns-clause-begin : goal.returns-clause-begin
returns-clause-begin c = elements_begin

pub returns-clause-safe : goal.returns-clause-safe
returns-clause-safe c = elements_safe

pub returns-clause-whole : goal.returns-clause-whole
returns-clause-whole c = elements_whole

pub returns-clause-refused : goal.returns-clause-refused
returns-clause-refused c = elements_refused

pub returns-clause-cut : goal.returns-clause-cut
returns-clause-cut c = elements_cut

pub returns-clause-pipe : goal.returns-clause-pipe
returns-clause-pipe c = elements_pipe
