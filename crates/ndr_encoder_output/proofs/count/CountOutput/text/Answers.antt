use Rattle.std.proofs.Common.{refl, length, ◌+◌, ◌++◌, ◌∷◌}
use Rattle.ndr_encoder_laws.specs.pieces.Pieces.{four, Raw}
use Rattle.ndr_encoder_output.proofs.Counted.{count_room, count_text}
use Rattle.ndr_encoder_output.proofs.count.CountOutput.text.Goals as goal

pub overflow_add-self : goal.overflow_add-self
overflow_add-self c = count_room c.args.self.now.at 4 (four (length c.args.octets.now + 1)) (Raw c.args.octets.now ∷ (c.requires.0 ++ c.requires.1.rest)) refl c.requires.1.can_follow

pub overflow_add-self-3 : goal.overflow_add-self-3
overflow_add-self-3 c = count_text c.args.self.now.at c.args.octets.now _ c.requires.1.can_follow
