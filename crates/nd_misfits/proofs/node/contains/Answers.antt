use Rattle.std.proofs.Common.{◌∙◌, sym, ap, rules, arith}
use Rattle.std.proofs.lemmas.Int.{to_z-of_z}
use mir.Val.{SFits, of_z, to_z}
use mir.Syntax.{w128}
use Rattle.std.specs.List.{list_any}
use Rattle.std.specs.Ordering.{int_eq}
use Rattle.nd_lemmas.proofs.Lists.{drop_past as drop-past}
use Rattle.nd_misfits.proofs.NodeTests.{any_found, any_next}
use Rattle.nd_lemmas.proofs.Integers.{equal_from as same_number, other_from as other_number}
use Rattle.nd_misfits.proofs.node.contains.Goals as goal

pub returns-then-number-value : goal.returns-then-number-value
returns-then-number-value c =
    let n = c.args.number in
    let known : SFits w128 n = search rules in
    let vs = c.args.values.now in
    let fits : SFits w128 c.in-Some.value.now = search rules in
    sym
    (ap (λ z. list_any (int_eq z) vs) (sym (to_z-of_z w128 n known)) ∙ c.loop-at.invariant
    ∙ any_found (to_z w128 (of_z w128 n)) vs c.loop-at.at c.in-Some.value.now c.in-Some.ensures.some (same_number n c.in-Some.value.now fits c.if-number-value.true))

pub loop-at-preserved : goal.loop-at-preserved
loop-at-preserved c =
    let n = c.args.number in
    let known : SFits w128 n = search rules in
    c.loop-at.invariant
    ∙ any_next (to_z w128 (of_z w128 n)) c.args.values.now c.loop-at.at c.in-Some.value.now c.in-Some.ensures.some
    (other_number n c.in-Some.value.now known c.if-number-value.false)

pub returns : goal.returns
returns c =
    let n = c.args.number in
    let known : SFits w128 n = search rules in
    let vs = c.args.values.now in
    sym
    (ap (λ z. list_any (int_eq z) vs) (sym (to_z-of_z w128 n known)) ∙ c.loop-at.invariant
    ∙ ap (list_any (int_eq (to_z w128 (of_z w128 n)))) (drop-past vs c.loop-at.at (omega arith)))
