use Rattle.std.proofs.Common.{◌∙◌, Some, ap, refl}
use Rattle.nd_value.specs.Fitting.{Fitting}
use Rattle.library_handles.specs.declared.held.Held.TheVariants as kept
use Rattle.library_answers.proofs.Copies.{nodes_are}
use Rattle.library_answers.proofs.nodes.list_again.Goals as goal

pub returns-in-Ok-clause-listed : goal.returns-in-Ok-clause-listed
returns-in-Ok-clause-listed c ok =
    nodes_are c.args.values.now.graph c.flat.result.now c.list.new.self (Some (kept.Nodes c.list.new.self)) c.in-Ok.ensures.ok refl
    (c.flat.ensures.graph ∙ ap (λ (f : Fitting). f.graph) c.fit.ensures)
