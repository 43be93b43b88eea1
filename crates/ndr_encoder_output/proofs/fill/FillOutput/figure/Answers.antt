use Rattle.ndr_encoder_laws.specs.pieces.Pieces.{Figure}
use Rattle.ndr_encoder_output.proofs.Filled.{room_for}
use Rattle.ndr_encoder_output.proofs.fill.FillOutput.figure.Goals as goal

pub write_figure-self-requires-clause-room : goal.write_figure-self-requires-clause-room
write_figure-self-requires-clause-room c = room_for c.args.self.now.at c.args.self.now.out.now (Figure c.args.prim c.args.value) _ c.requires.1.can_follow
