use Rattle.std.proofs.Common.{arith, ◌≤◌, ◌<◌}
use Rattle.nd_graph.proofs.Walks.{roots_on}
use Rattle.nd_graph.proofs.order.roots.Goals as goal

pub loop-at-preserved : goal.loop-at-preserved
loop-at-preserved c =
    let lo : 0 < c.loop-at.at = let t = c.loop-at-test.true in omega (arith, t) in
    let hi : c.loop-at.at ≤ c.args.count = c.loop-at.invariant.within in
    record {
      within = omega (arith, hi);
      due = roots_on c.loop-at.due.items c.push.new.self.items c.loop-at.at c.args.count lo hi c.in-Ok.ensures.items c.loop-at.invariant.due;
    }
