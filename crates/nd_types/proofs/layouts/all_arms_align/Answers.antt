use Rattle.std.proofs.Common.{◌∙◌, ◌++◌, sym, ap, map, max}
use Rattle.nd_types.specs.Layout.{largest, arm_type, arm_types, default_type}
use Rattle.nd_types.specs.Rounds.{align_in}
use Rattle.nd_types.proofs.Largest.{no_default, default_behind, arm_largest}
use Rattle.nd_types.proofs.layouts.all_arms_align.Goals as goal

pub returns-in-Some : goal.returns-in-Some
returns-in-Some c =
    let f = align_in c.args.layouts.now in
    c.with_arm.ensures ∙ ap (max (arm_largest f c.in-Some.arm)) c.arms_align-align.ensures.largest
    ∙ default_behind f (arm_types c.args.arms.now) (arm_type c.in-Some.arm)
    ∙ ap (λ d. largest (map f (arm_types c.args.arms.now ++ default_type d))) (sym c.in-Some.is)

pub returns-in-None : goal.returns-in-None
returns-in-None c = c.arms_align-align.ensures.largest ∙ no_default (align_in c.args.layouts.now) (arm_types c.args.arms.now)
    ∙ ap (λ d. largest (map (align_in c.args.layouts.now) (arm_types c.args.arms.now ++ default_type d))) (sym c.in-None.is)
