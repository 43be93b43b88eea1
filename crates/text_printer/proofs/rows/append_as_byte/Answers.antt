use Rattle.std.proofs.Common.{rules, ◌++◌, ap, ◌∙◌}
use Rattle.std.proofs.lemmas.Int.{to_z-of_z}
use Rattle.std.proofs.lemmas.Result.{on_ok_weaker}
use mir.Val.{SFits}
use mir.Syntax.{w128}
use Rattle.nd_value.specs.Tree as tree
use Rattle.text_printer.specs.Texts.{byte_text}
use Rattle.text_printer.proofs.rows.append_as_byte.Goals as goal

pub returns : goal.returns
returns c =
    let fits : SFits w128 c.read_num.result = search rules in
    on_ok_weaker c.append_byte.result (λ e. e ∙ ap (λ z. c.args.text.now ++ byte_text (tree.Num z)) (to_z-of_z w128 c.read_num.result fits ∙ c.read_num.ensures)) c.append_byte.ensures
