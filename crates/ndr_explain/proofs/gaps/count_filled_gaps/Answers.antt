use Rattle.std.proofs.Common.{◌≤◌, length, refl, le_refl, arith}
use Rattle.ndr_explain.proofs.FilledGaps.{counted_all, counted_next}
use Rattle.ndr_explain.proofs.gaps.count_filled_gaps.Goals as goal

pub loop-at-init : goal.loop-at-init
loop-at-init c = (le_refl _, omega arith)

pub loop-at-preserved : goal.loop-at-preserved
loop-at-preserved c =
    let i = c.loop-at.invariant in (
      (let few = i.0 in omega (arith, few, c.filled-count.ensures.few)),
      counted_next c.args.octets.now c.args.items.now.items c.loop-at.at c.in-Some.item.now c.loop-at.count _ c.filled-count.result c.in-Some.ensures.some c.filled-count.ensures.is refl i.1,
    )

pub returns : goal.returns
returns c =
    let over : length c.args.items.now.items ≤ c.loop-at.at = omega arith in
    counted_all c.args.octets.now c.args.items.now.items c.loop-at.at c.loop-at.count over c.loop-at.invariant.1
