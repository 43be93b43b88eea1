use Rattle.std.proofs.Common.{arith}
use Rattle.nd_value.specs.Seen.{tree_of}
use Rattle.nd_flat.proofs.Rebuilding.{root_more, all_made}
use Rattle.nd_flat.proofs.rebuilt.roots.Goals as goal

pub loop-at-preserved : goal.loop-at-preserved
loop-at-preserved c =
    root_more c.args.graph.now c.loop-at.at c.loop-at.vals c.push.new.self (tree_of c.in_ok-val.val)
    (omega (arith, c.loop-at-test.true, c.root_count-at-end.ensures)) c.loop-at.invariant c.in_ok-val.ensures c.in-Ok.ensures.ok

pub returns : goal.returns
returns c = all_made c.args.graph.now.roots c.loop-at.vals c.loop-at.at (omega (arith, c.loop-at-test.false, c.root_count-at-end.ensures)) c.loop-at.invariant
