use Rattle.ndr_drain_laws.proofs.reader.Meeting.{fewer}
use Rattle.ndr_drain_laws.proofs.laws.reader.items_may_be_fewer.Goals as goal

pub returns : goal.returns
returns c = fewer
