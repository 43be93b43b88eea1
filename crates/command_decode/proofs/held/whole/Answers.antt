use Rattle.std.proofs.Common.{ap}
use Rattle.command_decode.specs.declared.held.Traced.TheVariants as traced
use Rattle.command_decode.proofs.held.whole.Goals as goal

pub returns : goal.returns
returns c = ap (λ text. traced.Whole text) c.in_ok-text.ensures
