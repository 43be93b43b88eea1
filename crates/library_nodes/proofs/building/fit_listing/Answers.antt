use Rattle.std.proofs.Common.{option_map, sym, ap, subst}
use Rattle.std.proofs.lemmas.Result.{err_from_is_err_and}
use Rattle.nd_value.specs.Fitting.{Fitting, setting_beside}
use Rattle.library_nodes.specs.Built.{Says}
use Rattle.library_nodes.proofs.Graphs.{refused_is}
use Rattle.library_nodes.proofs.building.fit_listing.Goals as goal

pub returns-in_err-graph-clause-refused : goal.returns-in_err-graph-clause-refused
returns-in_err-graph-clause-refused c =
    let p = err_from_is_err_and c.from_residual.result c.from_residual.ensures.1 in
    rw (p.1, p.2) (λ o there. c.in_err-graph.ensures.refused o (option_map (λ f. f.now.graph) c.args.given) there)

pub returns-in-Ok-clause-tied : goal.returns-in-Ok-clause-tied
returns-in-Ok-clause-tied c = ap (λ (f : Fitting). f.interface) c.in-Ok.ensures.fits

pub returns-in-Ok-clause-number : goal.returns-in-Ok-clause-number
returns-in-Ok-clause-number c = ap (λ (f : Fitting). f.op) c.in-Ok.ensures.fits

pub returns-in-Ok-clause-side : goal.returns-in-Ok-clause-side
returns-in-Ok-clause-side c = ap (λ (f : Fitting). f.side) c.in-Ok.ensures.fits

pub returns-in-Ok-clause-beside : goal.returns-in-Ok-clause-beside
returns-in-Ok-clause-beside c = ap (λ (f : Fitting). f.given) c.in-Ok.ensures.fits

pub returns-in-Ok-clause-built : goal.returns-in-Ok-clause-built
returns-in-Ok-clause-built c =
    λ o there.
    let w = setting_beside c.args.interface.now o c.args.side (option_map (λ f. f.now.graph) c.args.given) in
    subst (λ (f : Fitting). Says w c.args.listing.now f.graph) (sym c.in-Ok.ensures.fits) (c.in_ok-graph.ensures.said o there)

pub returns-in-Err-clause-refused : goal.returns-in-Err-clause-refused
returns-in-Err-clause-refused c =
    λ o there.
    let w = setting_beside c.args.interface.now o c.args.side (option_map (λ f. f.now.graph) c.args.given) in
    refused_is w c.args.listing.now c.in_ok-graph.graph c.in-Err.refusal (c.in_ok-graph.ensures.said o there) (c.in-Err.ensures.refused o there)
