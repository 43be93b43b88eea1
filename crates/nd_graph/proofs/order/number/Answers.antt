use Rattle.std.proofs.Common.{rules, ◌≡◌, ◌<◌, ◌^◌, length, get_or, ap, sym, ◌∙◌}
use Rattle.nd_graph.proofs.Numbers.{room}
use Rattle.nd_graph.proofs.order.number.Goals as goal

pub overflow_cast-as_slice : goal.overflow_cast-as_slice
overflow_cast-as_slice c =
    let zero : 0 ≡ get_or c.args.order.now.numbers.items c.args.cell.0 0 =
    sym c.if-index-ne0.false ∙ c.index.ensures ∙ ap (λ d. get_or c.args.order.now.numbers.items c.args.cell.0 d) c.if-index-ne0.false in
    let few : length c.as_slice.result.now < 2 ^ 32 =
    room c.args.order.now.numbers.items c.args.order.now.cells.items c.as_slice.result.now c.args.cell.0 c.requires (sym zero)
    (c.as_slice.ensures.value ∙ c.in-Ok.ensures.items) in
    search rules
