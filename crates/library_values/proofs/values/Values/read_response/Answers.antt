use Rattle.std.proofs.Common.{◌≡◌, Some, IfOk, subst}
use Rattle.std.specs.List.{slice_get}
use Rattle.nd_types.specs.declared.types.Operation.{Operation}
use Rattle.nd_types.specs.declared.types.Side.TheVariants.{Out}
use Rattle.nd_value.specs.Fitting.{Fitting, setting_beside}
use Rattle.text_grammar.specs.Reads.{ReadsAs}
use Rattle.library_values.proofs.values.Values.read_response.Goals as goal

pub returns-clause-read : goal.returns-clause-read
returns-clause-read c =
    subst
    (λ (q : Fitting). (o : Operation) → slice_get q.interface.operations q.op ≡ Some o
    → IfOk c.read_given.result (λ v. ReadsAs (setting_beside q.interface o Out (Some q.graph)) c.args.text.now v.graph))
    c.request.view_is c.read_given.ensures.read
