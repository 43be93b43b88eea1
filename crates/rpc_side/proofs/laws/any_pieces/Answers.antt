use Rattle.rpc_side.proofs.Streaming.{pieces_alike}
use Rattle.rpc_side.proofs.laws.any_pieces.Goals as goal

pub returns : goal.returns
returns c stream handed other s t = pieces_alike stream handed other s t
