use Rattle.std.proofs.Common.{◌∙◌, ap}
use Rattle.nd_types.specs.Rounds.{align_in}
use Rattle.nd_types.proofs.Rounds.{align_is}
use Rattle.nd_types.proofs.interface.Interface.align.Goals as goal

pub returns : goal.returns
returns c = c.align_in.ensures ∙ ap (λ ls. align_in ls c.args.of.0) c.as_slice.ensures ∙ ap (λ ls. align_in ls c.args.of.0) c.args.self.now.laid_out ∙ align_is c.args.self.now.types c.args.of.0
