use Rattle.std.proofs.Common.{refl}
use Rattle.nd_value.specs.Seen.{cell_number}
use Rattle.ndr_encoder_laws.specs.pieces.Pieces.{Name}
use Rattle.ndr_encoder_output.proofs.Counted.{count_room}
use Rattle.ndr_encoder_output.proofs.count.CountOutput.name.Goals as goal

pub overflow_add-self : goal.overflow_add-self
overflow_add-self c = count_room c.args.self.now.at 4 (Name (cell_number c.args.cell) c.args.run) _ refl c.requires.1.can_follow
