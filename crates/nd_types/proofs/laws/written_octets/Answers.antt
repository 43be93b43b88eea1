use Rattle.nd_types.proofs.NumberLaws.{written-length, written-octets}
use Rattle.nd_types.proofs.laws.written_octets.Goals as goal

pub returns-clause-wide : goal.returns-clause-wide
returns-clause-wide c = written-length

pub returns-clause-octets : goal.returns-clause-octets
returns-clause-octets c = written-octets
