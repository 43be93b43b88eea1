use Rattle.std.proofs.Common.{◌≡◌, Some, IfOk, subst}
use Rattle.std.specs.List.{slice_get}
use Rattle.nd_types.specs.declared.types.Operation.{Operation}
use Rattle.nd_types.specs.declared.types.Side.TheVariants.{Out}
use Rattle.nd_value.specs.Fitting.{Fitting, setting_beside}
use Rattle.library_values.specs.Decoded.{IsDecodedOf}
use Rattle.library_values.specs.Logged.{IsLoggedOf}
use Rattle.library_values.proofs.values.Values.decode_response_with_items.Goals as goal

pub returns-clause-decoded : goal.returns-clause-decoded
returns-clause-decoded c =
    subst
    (λ (q : Fitting). (o : Operation) → slice_get q.interface.operations q.op ≡ Some o
    → IfOk c.both_given.result (λ d. IsDecodedOf (setting_beside q.interface o Out (Some q.graph)) c.args.order c.args.octets.now d.0.1 d.0.0.graph))
    c.request.view_is c.both_given.ensures.decoded

pub returns-clause-logged : goal.returns-clause-logged
returns-clause-logged c =
    subst
    (λ (q : Fitting). (o : Operation) → slice_get q.interface.operations q.op ≡ Some o
    → IfOk c.both_given.result (λ d. IsLoggedOf (setting_beside q.interface o Out (Some q.graph)) c.args.order c.args.octets.now d.1.items))
    c.request.view_is c.both_given.ensures.logged
