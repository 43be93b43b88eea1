use Rattle.std.proofs.Common.{◌≡◌, ◌+◌, ◌<◌, take, arith}
use Rattle.nd_value.specs.Tree.{more, none, trees, node_count}
use Rattle.nd_value.specs.Seen.{tree_of}
use Rattle.text_grammar.proofs.Sizes.{smaller_at, nodes_more, nodes_within}
use Rattle.text_printer.proofs.paths.+nodes.Goals as goal

pub beyond_all-beyond-requires : goal.beyond_all-beyond-requires
beyond_all-beyond-requires t c = (omega (arith, smaller_at c.args.vals.now c.loop-at.at (tree_of c.in-Some.val.now) c.in-Some.ensures.some, c.decreases), tt)

pub beyond_all-returns-in-None : goal.beyond_all-returns-in-None
beyond_all-returns-in-None t c =
    let vs = c.args.vals.now in
    let v = tree_of c.in-Some.val.now in
    let h : c.args.node ≡ node_count (trees (take c.loop-at.at vs)) + c.loop-at.left = c.loop-at.invariant in
    let k : c.loop-at.left < node_count (more v none) = c.in-None.ensures in
    omega (arith, h, k, nodes_within vs c.loop-at.at v c.in-Some.ensures.some)

pub beyond_all-loop-at-preserved : goal.beyond_all-loop-at-preserved
beyond_all-loop-at-preserved t c =
    let vs = c.args.vals.now in
    let v = tree_of c.in-Some.val.now in
    let h : c.args.node ≡ node_count (trees (take c.loop-at.at vs)) + c.loop-at.left = c.loop-at.invariant in
    let k : c.loop-at.left ≡ node_count (more v none) + c.in-Some-beyond.more = c.in-Some-beyond.ensures in
    omega (arith, h, k, nodes_more vs c.loop-at.at v c.in-Some.ensures.some)
