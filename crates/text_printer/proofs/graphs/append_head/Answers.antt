use Rattle.std.proofs.Common.{◌++◌, codes, ap, ◌∙◌}
use Rattle.std.proofs.lemmas.Result.{on_ok_weaker}
use Rattle.text_grammar.specs.Written.{side_word}
use Rattle.text_printer.proofs.Identifiers.{five}
use Rattle.text_printer.proofs.graphs.append_head.Goals as goal

pub returns : goal.returns
returns c =
    on_ok_weaker c.append-5.result
    (λ e. five c.args.text.now c.append.new.self c.append-2.new.self c.append-3.new.self c.append-4.new.self c.append-5.new.self (codes "values 2\nop ") c.args.name.now
    (codes " ") (side_word c.args.side) (codes "\n") c.in_ok-append.ensures.ok c.in_ok-append-2.ensures.ok c.in_ok-append-3.ensures.ok
    (c.in_ok-append-4.ensures.ok ∙ ap (λ x. c.append-3.new.self ++ x) c.side_name.ensures) e)
    c.append-5.ensures.ok
