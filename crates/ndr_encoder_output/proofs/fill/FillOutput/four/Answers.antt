use Rattle.ndr_encoder_laws.specs.pieces.Pieces.{four}
use Rattle.ndr_encoder_output.proofs.Filled.{room_for}
use Rattle.ndr_encoder_output.proofs.fill.FillOutput.four.Goals as goal

pub write_four-self-requires : goal.write_four-self-requires
write_four-self-requires c = record { room = room_for c.args.self.now.at c.args.self.now.out.now (four c.args.value) _ c.requires.1.can_follow }
