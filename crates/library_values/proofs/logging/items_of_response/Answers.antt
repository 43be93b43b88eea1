use Rattle.std.proofs.Common.{◌≡◌, ◌∙◌, Some, IfOk, IfErr, ap, sym, subst}
use Rattle.std.specs.List.{slice_get}
use Rattle.nd_types.specs.declared.types.Operation.{Operation}
use Rattle.nd_types.specs.declared.types.Side.TheVariants.{Out}
use Rattle.nd_value.specs.Fitting.{Fitting, setting_beside}
use Rattle.library_values.specs.Decoded.{IsOctetsCause}
use Rattle.library_values.specs.Logged.{IsLoggedOf}
use Rattle.library_values.proofs.logging.items_of_response.Goals as goal

pub log_given-requires-clause-tied : goal.log_given-requires-clause-tied
log_given-requires-clause-tied c = c.compiled.ensures ∙ sym (ap (λ (f : Fitting). f.interface) c.fit.ensures)

pub log_given-requires-clause-request : goal.log_given-requires-clause-request
log_given-requires-clause-request c = ap (λ (f : Fitting). f.side) c.fit.ensures ∙ c.requires.request

pub returns-clause-logged : goal.returns-clause-logged
returns-clause-logged c =
    subst
    (λ (q : Fitting). (o : Operation) → slice_get q.interface.operations q.op ≡ Some o
    → IfOk c.log_given.result (λ log. IsLoggedOf (setting_beside q.interface o Out (Some q.graph)) c.args.order c.args.octets.now log.items))
    c.fit.ensures c.log_given.ensures.logged

pub returns-clause-refused : goal.returns-clause-refused
returns-clause-refused c =
    subst
    (λ (q : Fitting). (o : Operation) → slice_get q.interface.operations q.op ≡ Some o
    → IfErr c.log_given.result (IsOctetsCause (setting_beside q.interface o Out (Some q.graph)) c.args.order c.args.octets.now))
    c.fit.ensures c.log_given.ensures.refused
