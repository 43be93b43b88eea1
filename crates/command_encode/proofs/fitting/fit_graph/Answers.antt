use Rattle.std.proofs.Common.{option_map, sym, subst}
use Rattle.nd_value.specs.Conforms.{IsMisfit}
use Rattle.nd_value.specs.Fitting.{setting_beside}
use Rattle.command_encode.specs.Encoded.{IsValueCause}
use Rattle.command_encode.proofs.fitting.fit_graph.Goals as goal

pub returns-in-Err-clause-refused : goal.returns-in-Err-clause-refused
returns-in-Err-clause-refused c o there =
    let q = option_map (λ f. f.now.graph) c.args.given in
    let w = setting_beside c.args.interface.now o c.args.side q in
    subst (λ g. IsValueCause w g c.value_refused.result) c.in-Err.ensures.back
    (c.value_refused.ensures o q there (subst (λ g. IsMisfit w g c.in-Err.misfit) (sym c.in-Err.ensures.back) (c.in-Err.ensures.misfit o there)))
