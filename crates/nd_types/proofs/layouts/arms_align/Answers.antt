use Rattle.std.proofs.Common.{◌∙◌, sym, ap, max, map, drop, ◌+◌, arith}
use Rattle.std.proofs.Math.Nat.{le-max_right}
use Rattle.nd_types.specs.Layout.{largest, arm_types}
use Rattle.nd_types.specs.Rounds.{align_in}
use Rattle.nd_types.proofs.Largest.{one_max, some_largest, arm_largest, arms_largest, arm_more, arm_end}
use Rattle.nd_types.proofs.layouts.arms_align.Goals as goal

pub loop-arm-init : goal.loop-arm-init
loop-arm-init c =
    let all = map (align_in c.args.layouts.now) (arm_types c.args.arms.now) in
    record { some = omega arith; all = one_max (largest all) (some_largest all) }

pub with_arm-align-requires : goal.with_arm-align-requires
with_arm-align-requires c = c.loop-arm.invariant.some

pub loop-arm-preserved : goal.loop-arm-preserved
loop-arm-preserved c =
    let l = c.loop-arm in
    let f = align_in c.args.layouts.now in
    let a = c.arm-item.result in
    record {
      some = let more = le-max_right (arm_largest f a) l.align in omega (arith, c.with_arm-align.ensures, more, l.invariant.some);
      all =
          ap (λ n. max n (arms_largest f (drop (l.arm-index + 1) c.args.arms.now))) c.with_arm-align.ensures
          ∙ arm_more f c.args.arms.now l.arm-index a l.align c.loop-arm-test.true c.arm-item.is
          ∙ l.invariant.all;
    }

pub returns-clause-some : goal.returns-clause-some
returns-clause-some c = c.loop-arm.invariant.some

pub returns-clause-largest : goal.returns-clause-largest
returns-clause-largest c =
    let l = c.loop-arm in
    sym (arm_end (align_in c.args.layouts.now) c.args.arms.now l.arm-index l.align l.invariant.some (omega arith)) ∙ l.invariant.all
