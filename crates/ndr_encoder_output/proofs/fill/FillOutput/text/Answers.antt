use Rattle.std.proofs.Common.{length, ◌+◌}
use Rattle.ndr_encoder_laws.specs.pieces.Pieces.{four, Raw}
use Rattle.ndr_encoder_output.proofs.Filled.{room_two}
use Rattle.ndr_encoder_output.proofs.fill.FillOutput.text.Goals as goal

pub write_text-self-requires-clause-room : goal.write_text-self-requires-clause-room
write_text-self-requires-clause-room c =
    room_two c.args.self.now.at c.args.self.now.out.now (four (length c.args.octets.now + 1)) (Raw c.args.octets.now) _ c.requires.1.can_follow
