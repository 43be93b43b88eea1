use Rattle.ndr_encoder_laws.specs.pieces.Pieces.{Figure}
use Rattle.ndr_encoder_output.proofs.Counted.{count_room}
use Rattle.ndr_encoder_output.proofs.count.CountOutput.figure.Goals as goal

pub overflow_add-self : goal.overflow_add-self
overflow_add-self c = count_room c.args.self.now.at c.width_of.result (Figure c.args.prim c.args.value) _ c.width_of.ensures.value c.requires.1.can_follow
