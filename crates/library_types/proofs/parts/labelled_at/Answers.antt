use mir.Val.{SFits}
use mir.Syntax.{w128}
use Rattle.std.proofs.lemmas.Int.{to_z-of_z}
use Rattle.std.proofs.Common.{rules, ℤ, ◌≡◌, ◌∙◌, ap, sym}
use Rattle.nd_types.specs.declared.types.Arm.{Arm}
use Rattle.library_types.specs.Low.{low}
use Rattle.library_types.proofs.Searching.{none_first, none_more, none_at_all}
use Rattle.library_types.proofs.parts.labelled_at.Goals as goal

pub returns-then-low-tag-clause-some : goal.returns-then-low-tag-clause-some
returns-then-low-tag-clause-some c =
    let z : ℤ = c.in-Some.arm.now.label in
    let fits : SFits w128 z = search rules in
    record {
      arm = c.in-Some.arm.now;
      there = c.in-Some.ensures.some;
      label_is = sym (c.low.ensures ∙ ap low (to_z-of_z w128 z fits)) ∙ c.if-low-tag.true;
      first = c.loop-at.invariant;
    }

pub loop-at-preserved : goal.loop-at-preserved
loop-at-preserved c =
    let z : ℤ = c.in-Some.arm.now.label in
    let fits : SFits w128 z = search rules in
    none_more Arm (λ a. low a.label) c.args.arms.now c.args.tag c.loop-at.at c.in-Some.arm.now c.loop-at.invariant c.in-Some.ensures.some
    (λ same. c.if-low-tag.false (c.low.ensures ∙ ap low (to_z-of_z w128 z fits) ∙ same))
