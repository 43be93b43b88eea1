use Rattle.std.proofs.Common.{◌∙◌}
use Rattle.std.proofs.lemmas.Result.{IfOk-weaker}
use Rattle.nd_value.specs.Fitting.{setting_beside}
use Rattle.ndr_explain.proofs.Lines.{over_none}
use Rattle.ndr_explain.proofs.explaining.explain.Goals as goal

pub returns : goal.returns
returns c =
    let f = c.args.fit.now in
    IfOk-weaker c.explain_over.result _ _
    (λ text h o there. h o there ∙ over_none (setting_beside c.args.interface.now o f.side f.given) f.graph c.args.items.now.items) c.explain_over.ensures
