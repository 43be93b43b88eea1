use Rattle.ndr_encoder_laws.proofs.pieces.Heads.{stream_octets, stream_end}
use Rattle.ndr_encoder_laws.proofs.laws.pieces.pieces_are_streams.Goals as goal

pub returns-clause-octets : goal.returns-clause-octets
returns-clause-octets c = stream_octets

pub returns-clause-ends : goal.returns-clause-ends
returns-clause-ends c = stream_end
