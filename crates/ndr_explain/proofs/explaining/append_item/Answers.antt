use Rattle.std.proofs.Common.{◌++◌, codes, ap, sym, ◌∙◌}
use Rattle.ndr_explain.specs.Explained.{item_head, node_shown}
use Rattle.ndr_explain.proofs.Lines.{other_rest}
use Rattle.nd_lemmas.proofs.Lists.{four_parts as four}
use Rattle.ndr_explain.proofs.explaining.append_item.Goals as goal

pub returns : goal.returns
returns c w s last =
    let x = c.args.item.now in
    let g = c.args.fit.now.graph in
    let t = c.args.text.now in
    let found = c.in_ok-found.ensures w s last in (
      four t c.append_head.new.text c.append-2.new.self c.append_node.new.text c.append-3.new.self (item_head x) (codes " ") (node_shown w g x) (codes "\n")
          c.in_ok-append_head.ensures c.in_ok-append-2.ensures.ok found.0 c.in_ok-append-3.ensures.ok
          ∙ ap (λ r. t ++ (item_head x ++ r)) (sym (other_rest w g c.args.octets.now x x.kind (c.is_gap.ensures.other c.if-is_gap.false))),
      found.1,
    )
