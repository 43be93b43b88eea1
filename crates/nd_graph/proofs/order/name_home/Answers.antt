use Rattle.std.proofs.Common.{◌++◌, ap, sym, subst, ◌∙◌}
use Rattle.std.proofs.lemmas.Result.{on_ok_weaker}
use Rattle.nd_value.specs.Tree.{Trees}
use Rattle.nd_value.specs.Names.{cells_in}
use Rattle.nd_graph.specs.Order.{Numbering, numbering, name, HaveNumbers}
use Rattle.nd_graph.proofs.order.name_home.Goals as goal

pub name_plain-requires : goal.name_plain-requires
name_plain-requires c =
    subst (λ (w : Trees). HaveNumbers c.args.order.now.numbers.items c.args.order.now.cells.items (cells_in w)) (sym c.plain_walk-plain.ensures) c.requires.numbers

pub name_all-requires : goal.name_all-requires
name_all-requires c =
    subst (λ (w : Trees). HaveNumbers c.name_plain.new.order.numbers.items c.name_plain.new.order.cells.items (cells_in w)) (sym c.walk-walk.ensures) c.in_ok-name_plain.ensures.have

pub returns-clause-order : goal.returns-clause-order
returns-clause-order c =
    let s : Numbering = numbering c.args.order.now.numbers.items c.args.order.now.cells.items in
    let r : Numbering = numbering c.name_plain.new.order.numbers.items c.name_plain.new.order.cells.items in
    on_ok_weaker c.name_all.result
    (λ e.
    e ∙ ap (λ (w : Trees). name (cells_in w) r) c.walk-walk.ensures ∙ c.in_ok-name_plain.ensures.order ∙ ap (λ (w : Trees). name (cells_in w) s) c.plain_walk-plain.ensures)
    c.name_all.ensures.order

pub returns-clause-met : goal.returns-clause-met
returns-clause-met c =
    on_ok_weaker c.name_all.result
    (λ e.
    e ∙ ap (λ (w : Trees). c.name_plain.new.met.items ++ cells_in w) c.walk-walk.ensures ∙ c.in_ok-name_plain.ensures.met
    ∙ ap (λ (w : Trees). c.args.met.now.items ++ cells_in w) c.plain_walk-plain.ensures)
    c.name_all.ensures.met
