use Rattle.std.proofs.Common.{arith}
use Rattle.nd_value.specs.Seen.{cell_of}
use Rattle.nd_flat.proofs.Rebuilding.{cell_more, all_made}
use Rattle.nd_flat.proofs.rebuilt.cells.Goals as goal

pub loop-at-preserved : goal.loop-at-preserved
loop-at-preserved c =
    cell_more c.args.graph.now c.loop-at.at c.loop-at.cells c.push.new.self (cell_of c.in_ok-made.made)
    (omega (arith, c.loop-at-test.true, c.cell_count-at-end.ensures)) c.loop-at.invariant c.in_ok-made.ensures c.in-Ok.ensures.ok

pub returns : goal.returns
returns c = all_made c.args.graph.now.cells c.loop-at.cells c.loop-at.at (omega (arith, c.loop-at-test.false, c.cell_count-at-end.ensures)) c.loop-at.invariant
