use Rattle.ndr_drain_laws.proofs.parts.Conforming.{conforming}
use Rattle.ndr_drain_laws.proofs.parts.Streams.{joined}
use Rattle.ndr_drain_laws.proofs.laws.parts.joined_chunks.Goals as goal

pub returns-clause-conform : goal.returns-clause-conform
returns-clause-conform c = λ w side order head g parts it all. conforming w side order head g parts it all

pub returns-clause-represent : goal.returns-clause-represent
returns-clause-represent c = joined
