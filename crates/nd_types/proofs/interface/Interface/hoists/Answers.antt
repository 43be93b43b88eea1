use Rattle.std.proofs.Common.{◌∙◌, ap}
use Rattle.nd_types.specs.Rounds.{hoists_in}
use Rattle.nd_types.proofs.Rounds.{hoists_is}
use Rattle.nd_types.proofs.interface.Interface.hoists.Goals as goal

pub returns : goal.returns
returns c = c.hoists_in.ensures ∙ ap (λ ls. hoists_in ls c.args.of.0) c.as_slice.ensures ∙ ap (λ ls. hoists_in ls c.args.of.0) c.args.self.now.laid_out ∙ hoists_is c.args.self.now.types c.args.of.0
