use Rattle.std.proofs.Common.{rules, ◌≡◌, None, IfOk, sym, subst}
use Rattle.std.specs.Prelude.{slice_get}
use Rattle.idl_compat_place.specs.Lines.{count_text, param_count}
use Rattle.idl_compat_place.proofs.lines.param_count.Goals as goal

pub returns-in-None : goal.returns-in-None
returns-in-None c =
    let e : slice_get c.args.interface.now.operations c.args.op ≡ None = search rules in
    subst (λ x. IfOk c.count_text-in-None.result (λ text. text ≡ count_text (param_count x))) (sym e) c.count_text-in-None.ensures
