use Rattle.std.proofs.Common.{◌≡◌, ◌+◌, take, arith}
use Rattle.nd_value.specs.Tree.{more, none, trees, node_count}
use Rattle.nd_value.specs.Seen.{tree_of}
use Rattle.text_grammar.proofs.Sizes.{nodes_more}
use Rattle.text_printer.proofs.paths.child_at.Goals as goal

pub loop-at-preserved : goal.loop-at-preserved
loop-at-preserved c =
    let vs = c.args.vals.now in
    let v = tree_of c.in-Some.val.now in
    let h : c.args.node ≡ node_count (trees (take c.loop-at.at vs)) + c.loop-at.left = c.loop-at.invariant in
    let k : c.loop-at.left ≡ node_count (more v none) + c.in-Some-beyond.more = c.in-Some-beyond.ensures in
    omega (arith, h, k, nodes_more vs c.loop-at.at v c.in-Some.ensures.some)
