use Rattle.std.proofs.Common.{◌∙◌, sym, ap, max, map}
use Rattle.nd_types.specs.Layout.{largest, type_list}
use Rattle.nd_types.specs.Rounds.{align_in}
use Rattle.nd_types.proofs.Largest.{arm_before, one_max}
use Rattle.nd_types.proofs.layouts.with_arm.Goals as goal

pub returns-in-Some : goal.returns-in-Some
returns-in-Some c =
    c.larger.ensures ∙ ap (λ n. max n c.args.align) c.align_in.ensures
    ∙ arm_before (align_in c.args.layouts.now c.in-Some.of.0) c.args.align c.requires
    ∙ ap (λ o. max (largest (map (align_in c.args.layouts.now) (type_list o))) c.args.align) (sym c.in-Some.is)

pub returns-in-None : goal.returns-in-None
returns-in-None c = sym (one_max c.args.align c.requires)
    ∙ ap (λ o. max (largest (map (align_in c.args.layouts.now) (type_list o))) c.args.align) (sym c.in-None.is)
