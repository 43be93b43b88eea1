use Rattle.std.proofs.Common.{◌≡◌, ◌≤◌, ◌∙◌, ◌-◌, ◌+◌, suc, ap, sym, arith, length}
use Rattle.std.proofs.lemmas.Result.{on_ok_weaker}
use Rattle.nd_value.specs.Tree.{flat, node, take_trees}
use Rattle.nd_value.specs.declared.value.Val.{Val}
use Rattle.nd_value.specs.Seen.{tree_of}
use Rattle.nd_flat.specs.Forest.{first_tree}
use Rattle.nd_flat.specs.FlatForm.{flat_seen}
use Rattle.nd_flat.proofs.Typed.{walked_some, rest_walked}
use Rattle.nd_flat.proofs.Rebuilding.{coming_on, coming_end, first_of, ok_as}
use Rattle.nd_flat.proofs.rebuilt.+rebuilt.Goals as goal

pub value-by_form-requires : goal.value-by_form-requires
value-by_form-requires t c =
    let f = flat_seen c.in-Some.seen in
    let e = c.in-Some.ensures.some in
    let n : length (flat c.args.walk.now) ≡ length (flat c.step.new.self) + 1 = omega (arith, ap length e) in
    (omega (arith, c.decreases, n), walked_some c.args.walk.now c.step.new.self f e)

pub value-returns-clause-rest : goal.value-returns-clause-rest
value-returns-clause-rest t c =
    on_ok_weaker c.by_form.result (λ r. r ∙ sym (rest_walked c.args.walk.now c.step.new.self (flat_seen c.in-Some.seen) c.in-Some.ensures.some)) c.by_form.ensures.rest

pub value-returns-clause-value : goal.value-returns-clause-value
value-returns-clause-value t c =
    let f = flat_seen c.in-Some.seen in
    ok_as c.by_form.result (λ (v : Val). tree_of v ≡ node f.0 (take_trees f.1 c.step.new.self)) (λ (v : Val). tree_of v ≡ first_tree c.args.walk.now)
    (λ v e. e ∙ sym (first_of c.args.walk.now c.step.new.self f c.in-Some.ensures.some)) c.by_form.ensures.value

pub values-loop-at-preserved : goal.values-loop-at-preserved
values-loop-at-preserved t c =
    let l : suc c.loop-at._at ≤ c.args.number = omega (arith, c.loop-at-test.true) in
    coming_on c.args.number c.args.walk.now c.loop-at._at c.loop-at.walk c.loop-at.vals c.value.new.walk (tree_of c.in_ok-val.val) c.push.new.self l
    c.loop-at.invariant c.in_ok-val.ensures.rest c.in_ok-val.ensures.value c.in-Ok.ensures.ok

pub values-returns-clause-values : goal.values-returns-clause-values
values-returns-clause-values t c =
    let z : c.args.number - c.loop-at._at ≡ 0 = omega (arith, c.loop-at-test.false) in
    (coming_end c.args.number c.args.walk.now (c.args.number - c.loop-at._at) c.loop-at.walk c.loop-at.vals z c.loop-at.invariant).1
