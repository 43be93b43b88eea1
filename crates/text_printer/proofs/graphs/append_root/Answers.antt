use Rattle.std.proofs.Common.{codes}
use Rattle.std.proofs.lemmas.Result.{on_ok_weaker}
use Rattle.text_printer.specs.Texts.{text_of}
use Rattle.nd_lemmas.proofs.Lists.{four_parts as four}
use Rattle.text_printer.proofs.Lines.{value_written}
use Rattle.text_printer.proofs.graphs.append_root.Goals as goal

pub returns : goal.returns
returns c =
    on_ok_weaker c.append-3.result
    (λ e v is b. four c.args.text.now c.append.new.self c.append-2.new.self c.append_next.new.text c.append-3.new.self c.args.root.name.now (codes " = ")
    (text_of c.args.types.now c.args.root.of.0 v) (codes "\n") c.in_ok-append.ensures.ok c.in_ok-append-2.ensures.ok
    (value_written c.args.types.now c.args.root.of.0 v c.append-2.new.self c.append_next.new.text c.args.walk.now c.append_next.new.walk is b c.in_ok-append_next.ensures.text) e)
    c.append-3.ensures.ok
