use Rattle.ndr_encoder_laws.specs.pieces.Pieces.{Gap}
use Rattle.ndr_encoder_output.proofs.Counted.{count_room}
use Rattle.ndr_encoder_output.proofs.count.CountOutput.gap.Goals as goal

pub overflow_add-self : goal.overflow_add-self
overflow_add-self c = count_room c.args.self.now.at c.gap_of-size.result (Gap c.args.to) _ c.gap_of-size.ensures c.requires.1.can_follow
