use Rattle.std.proofs.Common.{◌∙◌, ap}
use Rattle.nd_types.specs.Rounds.{layouts_after}
use Rattle.nd_types.specs.declared.TheConstants.{NESTING_LIMIT}
use Rattle.nd_types.proofs.Rounds.{after_all}
use Rattle.nd_types.proofs.lists.Types.layouts.Goals as goal

pub returns : goal.returns
returns c = c.in_ok-after_rounds.ensures ∙ ap (λ ts. layouts_after NESTING_LIMIT ts) c.as_slice.ensures ∙ after_all c.args.self.now
