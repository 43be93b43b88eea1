use Rattle.ndr_drain_laws.proofs.reader.Meeting.{part_accepted, part_refused}
use Rattle.ndr_drain_laws.proofs.laws.reader.part_reader_is_right.Goals as goal

pub returns-clause-accepts : goal.returns-clause-accepts
returns-clause-accepts c = part_accepted

pub returns-clause-refuses : goal.returns-clause-refuses
returns-clause-refuses c = part_refused
