use Rattle.ndr_encoder_laws.proofs.pieces.Showing.{shown_octets, shown_end}
use Rattle.ndr_encoder_laws.proofs.laws.pieces.pieces_are_entries.Goals as goal

pub returns-clause-octets : goal.returns-clause-octets
returns-clause-octets c = shown_octets

pub returns-clause-ends : goal.returns-clause-ends
returns-clause-ends c = shown_end
