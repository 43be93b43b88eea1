use Rattle.std.proofs.Common.{rules, ◌++◌, ap, ◌∙◌}
use Rattle.std.specs.Fmt.{signed_decimal}
use Rattle.std.proofs.lemmas.Int.{to_z-of_z}
use Rattle.std.proofs.lemmas.Result.{on_ok_weaker}
use mir.Val.{SFits}
use mir.Syntax.{w128}
use Rattle.text_printer.proofs.rows.append_one.Goals as goal

pub returns : goal.returns
returns c =
    let fits : SFits w128 c.read_num.result = search rules in
    on_ok_weaker c.append_number.result (λ e. e ∙ ap (λ z. c.args.text.now ++ signed_decimal z) (to_z-of_z w128 c.read_num.result fits ∙ c.read_num.ensures)) c.append_number.ensures
