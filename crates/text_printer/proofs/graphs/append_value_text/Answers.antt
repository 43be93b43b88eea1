use Rattle.std.proofs.Common.{◌++◌, ap, ◌∙◌, sym}
use Rattle.nd_value.specs.Seen.{tree_of}
use Rattle.text_printer.proofs.Sound.{value_is_printed}
use Rattle.text_printer.proofs.graphs.append_value_text.Goals as goal

pub returns : goal.returns
returns c =
    let v = tree_of c.args.val.now in
    let table = c.args.interface.now.types in
    c.in_ok-append_value.ensures ∙ ap (λ t. c.args.text.now ++ t) (sym (value_is_printed table c.args.of.0 v c.requires))
