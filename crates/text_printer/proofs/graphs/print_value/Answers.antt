use Rattle.std.proofs.Common.{◌++◌, ap, ◌∙◌}
use Rattle.nd_value.specs.Seen.{tree_of}
use Rattle.text_grammar.specs.declared.version.Version.TheVariants as version
use Rattle.text_grammar.specs.Written.{value_text}
use Rattle.text_printer.proofs.graphs.print_value.Goals as goal

pub returns : goal.returns
returns c =
    let v = tree_of c.args.val.now in
    let table = c.args.interface.now.types in
    c.in_ok-append_value_text.ensures ∙ ap (λ t. t ++ value_text version.Two table c.args.of.0 v) c.new-text.ensures
