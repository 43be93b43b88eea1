use Rattle.ndr_encoder_laws.specs.pieces.Pieces.{Handle}
use Rattle.ndr_encoder_output.proofs.Filled.{room_for}
use Rattle.ndr_encoder_output.proofs.fill.FillOutput.handle.Goals as goal

pub write_handle-self-requires : goal.write_handle-self-requires
write_handle-self-requires c = room_for c.args.self.now.at c.args.self.now.out.now (Handle c.args.attributes c.args.id) _ c.requires.1.can_follow
