use Rattle.std.proofs.Common.{◌∙◌, sym, ap, rules, arith}
use Rattle.std.proofs.lemmas.Int.{to_z-of_z}
use mir.Val.{SFits, of_z, to_z}
use mir.Syntax.{w128}
use Rattle.nd_types.specs.Table.{selected}
use Rattle.nd_types.proofs.ArmLaws.{arm_found, arm_next}
use Rattle.nd_lemmas.proofs.Lists.{drop_past as drop-past}
use Rattle.nd_lemmas.proofs.Integers.{equal_to as same_label, other_than as other_label}
use Rattle.text_parser.proofs.parts.selected.Goals as goal

pub returns-then-arm-tag : goal.returns-then-arm-tag
returns-then-arm-tag c =
    let n = c.args.tag in
    let known : SFits w128 n = search rules in
    let arms = c.args.arms.now in
    let default = c.args.default.now in
    let fits : SFits w128 c.in-Some.arm.now.label = search rules in
    sym
    (ap (selected arms default) (sym (to_z-of_z w128 n known)) ∙ c.loop-at.invariant
    ∙ arm_found default (to_z w128 (of_z w128 n)) arms c.loop-at.at c.in-Some.arm.now c.in-Some.ensures.some (same_label c.in-Some.arm.now.label n fits c.if-arm-tag.true))

pub loop-at-preserved : goal.loop-at-preserved
loop-at-preserved c =
    let n = c.args.tag in
    let known : SFits w128 n = search rules in
    c.loop-at.invariant
    ∙ arm_next c.args.default.now (to_z w128 (of_z w128 n)) c.args.arms.now c.loop-at.at c.in-Some.arm.now c.in-Some.ensures.some
    (other_label c.in-Some.arm.now.label n known c.if-arm-tag.false)

pub returns : goal.returns
returns c =
    let n = c.args.tag in
    let known : SFits w128 n = search rules in
    let arms = c.args.arms.now in
    let default = c.args.default.now in
    c.as_ref.ensures.value
    ∙ sym
    (ap (selected arms default) (sym (to_z-of_z w128 n known)) ∙ c.loop-at.invariant
    ∙ ap (λ xs. selected xs default (to_z w128 (of_z w128 n))) (drop-past arms c.loop-at.at (omega arith)))
