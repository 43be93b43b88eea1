use Rattle.std.proofs.Common.{◌≡◌, ◌∙◌, Some, refl, subst, arith}
use Rattle.std.specs.List.{slice_get}
use Rattle.std.proofs.lemmas.List.{length_push}
use Rattle.std.proofs.lemmas.Option.{slice_get_past}
use Rattle.std.proofs.lemmas.Iterator.Consumers.{YieldsList-from_first, YieldsList-turn, YieldsList-end}
use Rattle.nd_types.specs.Roots.{named_roots, root_value}
use Rattle.nd_value.proofs.LocalPass.{given_root}
use Rattle.library_types.proofs.roots.root_at.Goals as goal

pub loop-root-init : goal.loop-root-init
loop-root-init c = record { counted = refl; before = omega arith }

pub returns-then-number-at-clause-some : goal.returns-then-number-at-clause-some
returns-then-number-at-clause-some c o there =
    let i = c.args.interface.now in
    let all = named_roots i.types c.args.side o in
    let walk = YieldsList-from_first root_value (λ w. w) all (c.into_iter-root-iterator.ensures.into_iter_gives ∙ c.params-root-items.ensures o there) in
    let turn = YieldsList-turn walk c.loop-root.yielded _ c.loop-root.yielded_by _ _ c.in-Some.root c.in-Some.is c.next.ensures.steps in
    subst (λ n. slice_get all n ≡ Some (root_value c.in-Some.root)) c.if-number-at.true
    (given_root all c.loop-root.number _ (root_value c.in-Some.root) c.loop-root.invariant.counted turn)

pub loop-root-preserved : goal.loop-root-preserved
loop-root-preserved c = record {
  counted = let n = length_push c.loop-root.yielded c.in-Some.root in omega (arith, n, c.loop-root.invariant.counted);
  before = omega (arith, c.loop-root.invariant.before, c.if-number-at.false);
}

pub returns-clause-none : goal.returns-clause-none
returns-clause-none c o there =
    let i = c.args.interface.now in
    let all = named_roots i.types c.args.side o in
    let walk = YieldsList-from_first root_value (λ w. w) all (c.into_iter-root-iterator.ensures.into_iter_gives ∙ c.params-root-items.ensures o there) in
    let end = YieldsList-end walk c.loop-root.yielded _ c.loop-root.yielded_by _ _ c.in-None.is c.next.ensures.steps in
    slice_get_past all c.args.at (omega (arith, end.1, c.loop-root.invariant.counted, c.loop-root.invariant.before))
