use Rattle.std.proofs.Common.{codes, decimal, subst, ap, ◌∷◌, [], sym, ◌++◌, ◌∙◌}
use Rattle.std.proofs.lemmas.Result.{on_ok_weaker}
use Rattle.nd_value.specs.Tree.{more, none}
use Rattle.text_printer.specs.Texts.{text_of}
use Rattle.text_printer.specs.Walks.{Begins}
use Rattle.text_printer.proofs.Identifiers.{five}
use Rattle.text_printer.proofs.Lines.{value_written}
use Rattle.text_printer.proofs.graphs.append_cell.Goals as goal

pub returns : goal.returns
returns c =
    on_ok_weaker c.append-3.result
    (λ e x same is b.
    let table = c.args.types.now in
    let b' = subst (λ t. Begins table (t ∷ []) (more x.val none)) same b in
    let v = value_written table c.args.of.0 x.val c.append-2.new.self c.append_next.new.text c.args.walk.now c.append_next.new.walk is b' c.in_ok-append_next.ensures.text in
    five c.args.text.now c.append.new.self c.append_place.new.text c.append-2.new.self c.append_next.new.text c.append-3.new.self (codes "@") (decimal c.args.number)
    (codes " = ") (text_of table x.of x.val) (codes "\n")
    c.in_ok-append.ensures.ok c.in_ok-append_place.ensures c.in_ok-append-2.ensures.ok (v ∙ ap (λ t. c.append-2.new.self ++ text_of table t x.val) (sym same)) e)
    c.append-3.ensures.ok
