use Rattle.nd_value.specs.Seen.{cell_number}
use Rattle.ndr_encoder_laws.specs.pieces.Pieces.{Name}
use Rattle.ndr_encoder_output.proofs.Filled.{room_for}
use Rattle.ndr_encoder_output.proofs.fill.FillOutput.name.Goals as goal

pub write_four-self-requires : goal.write_four-self-requires
write_four-self-requires c = record { room = room_for c.args.self.now.at c.args.self.now.out.now (Name (cell_number c.args.cell) c.args.run) _ c.requires.1.can_follow }
