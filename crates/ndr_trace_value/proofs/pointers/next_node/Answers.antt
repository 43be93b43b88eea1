use Rattle.std.proofs.Common.{◌<◌, arith, length, subst, sym}
use Rattle.nd_lemmas.proofs.Lists.{past_end}
use Rattle.ndr_trace_value.proofs.Items.{item_node_is}
use Rattle.ndr_trace_value.proofs.pointers.next_node.Goals as goal

pub returns-in-Some : goal.returns-in-Some
returns-in-Some c k u m item rest t within = item_node_is k c.args.ground.now u c.args.progress.now m item rest t c.in-Some.item.now c.in-Some.ensures.some

pub returns-in-None : goal.returns-in-None
returns-in-None c k u m item rest t within =
    let p = past_end c.args.ground.now.items.now.items c.args.progress.now.next c.in-None.ensures.none in
    let w = subst (λ xs. c.args.progress.now.next < length xs) (sym u.items) within in
    absurd (omega (arith, p, w))
