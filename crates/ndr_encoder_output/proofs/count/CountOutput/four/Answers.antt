use Rattle.std.proofs.Common.{refl}
use Rattle.ndr_encoder_laws.specs.pieces.Pieces.{four}
use Rattle.ndr_encoder_output.proofs.Counted.{count_room}
use Rattle.ndr_encoder_output.proofs.count.CountOutput.four.Goals as goal

pub overflow_add-self : goal.overflow_add-self
overflow_add-self c = count_room c.args.self.now.at 4 (four c.args.value) _ refl c.requires.1.can_follow
