use Rattle.ndr_code.proofs.LengthTables.{lengths_more, one_longer}
use Rattle.ndr_code.proofs.lengths.look_lengths_up.Goals as goal

pub loop-at-preserved : goal.loop-at-preserved
loop-at-preserved c = (
  lengths_more c.args.code.now c.loop-at.lengths.items c.push.new.list.items c.lengths_at.result c.loop-at.at c.loop-at.invariant.0 c.loop-at.invariant.1 c.lengths_at.ensures
      c.in_ok-push.ensures.ok,
  one_longer c.loop-at.lengths.items c.push.new.list.items c.lengths_at.result c.loop-at.at c.loop-at.invariant.1 c.in_ok-push.ensures.ok,
)
