use Rattle.std.proofs.Common.{◌∙◌, ap}
use Rattle.nd_value.specs.Fitting.{Fitting}
use Rattle.library_answers.proofs.Copies.{nodes_are}
use Rattle.library_answers.proofs.nodes.list_first.Goals as goal

pub returns-in-Ok-clause-listed : goal.returns-in-Ok-clause-listed
returns-in-Ok-clause-listed c ok =
    nodes_are c.args.values.now.graph c.flat.result.now c.in-Ok.made c.fill.new.handle.value c.in-Ok.ensures (c.fill.ensures.filled ok)
    (c.flat.ensures.graph ∙ ap (λ (f : Fitting). f.graph) c.fit.ensures)
