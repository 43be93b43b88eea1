use Rattle.std.proofs.Common.{◌≡◌, Some, IfOk, sym, subst}
use Rattle.std.specs.List.{slice_get}
use Rattle.nd_types.specs.declared.interface.Interface.{Interface}
use Rattle.nd_types.specs.declared.types.Operation.{Operation}
use Rattle.nd_value.specs.Fitting.{setting_beside}
use Rattle.text_grammar.specs.Written.{IsText}
use Rattle.library_values.proofs.values.print_fit.Goals as goal

pub returns : goal.returns
returns c =
    let f = c.args.fit.now in
    subst
    (λ (i : Interface). IfOk c.print.result (λ text. (o : Operation) → slice_get i.operations f.op ≡ Some o → IsText (setting_beside i o f.side f.given) f.graph text))
    (sym c.requires.tied) c.print.ensures
