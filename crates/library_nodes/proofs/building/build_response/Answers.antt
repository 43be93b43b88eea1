use Rattle.std.proofs.Common.{◌≡◌, ◌∙◌, Some, IfOk, IfErr, sym, ap, subst}
use Rattle.std.specs.List.{slice_get}
use Rattle.nd_types.specs.declared.types.Operation.{Operation}
use Rattle.nd_types.specs.declared.types.Side.TheVariants.{Out}
use Rattle.nd_value.specs.Fitting.{Fitting, setting_beside}
use Rattle.library_values.specs.Decoded.{IsOf}
use Rattle.library_nodes.specs.Built.{Says, IsBuildCause}
use Rattle.library_nodes.proofs.building.build_response.Goals as goal

pub build_given-requires-clause-tied : goal.build_given-requires-clause-tied
build_given-requires-clause-tied c = c.shared.ensures ∙ ap (λ (f : Fitting). f.interface) (sym c.fit.ensures)

pub build_given-requires-clause-request : goal.build_given-requires-clause-request
build_given-requires-clause-request c = ap (λ (f : Fitting). f.side) c.fit.ensures ∙ c.requires.request

pub returns-clause-built : goal.returns-clause-built
returns-clause-built c =
    subst
    (λ (q : Fitting). (o : Operation) → slice_get q.interface.operations q.op ≡ Some o
    → IfOk c.build_given.result (λ v. Says (setting_beside q.interface o Out (Some q.graph)) c.args.listing.now v.graph))
    c.fit.ensures c.build_given.ensures.built

pub returns-clause-of : goal.returns-clause-of
returns-clause-of c =
    subst (λ (q : Fitting). IfOk c.build_given.result (λ v. IsOf q.interface q.op Out (Some q.graph) v)) c.fit.ensures c.build_given.ensures.of

pub returns-clause-refused : goal.returns-clause-refused
returns-clause-refused c =
    subst
    (λ (q : Fitting). (o : Operation) → slice_get q.interface.operations q.op ≡ Some o
    → IfErr c.build_given.result (IsBuildCause (setting_beside q.interface o Out (Some q.graph)) c.args.listing.now))
    c.fit.ensures c.build_given.ensures.refused
