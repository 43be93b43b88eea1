use Rattle.ndr_encoder_laws.specs.pieces.Pieces.{Gap}
use Rattle.ndr_encoder_output.proofs.Filled.{room_for}
use Rattle.ndr_encoder_output.proofs.fill.FillOutput.gap.Goals as goal

pub write_gap-self-requires-clause-room : goal.write_gap-self-requires-clause-room
write_gap-self-requires-clause-room c = room_for c.args.self.now.at c.args.self.now.out.now (Gap c.args.to) _ c.requires.1.can_follow
