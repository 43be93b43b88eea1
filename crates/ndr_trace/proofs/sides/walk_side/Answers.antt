use Rattle.std.proofs.Common.{◌≡◌, ◌≤◌, ◌∙◌, length, refl, arith, ap, subst, sym}
use Rattle.std.proofs.lemmas.List.{length_push}
use Rattle.std.proofs.lemmas.Iterator.Consumers.{YieldsList-end, YieldsList-from_first, YieldsList-turn}
use Rattle.nd_lemmas.proofs.Lists.{item_at}
use Rattle.nd_types.specs.Roots.{named_roots, root_value}
use Rattle.nd_value.proofs.FewRoots.{few_named_roots}
use Rattle.nd_value.proofs.LocalPass.{given_root}
use Rattle.ndr_trace_value.specs.declared.progress.Halt.TheVariants as halts
use Rattle.ndr_trace_value.proofs.Passing.{err_as}
use Rattle.ndr_trace.proofs.SideRoots.{all_passed, root_of_walk}
use Rattle.ndr_trace.proofs.SideWalks.{no_root_left}
use Rattle.ndr_trace.proofs.sides.walk_side.Goals as goal

pub loop-root-init : goal.loop-root-init
loop-root-init c = record { counted = refl; here = λ k u s side a. a }

pub overflow_add-at : goal.overflow_add-at
overflow_add-at c =
    let i = c.args.ground.now.interface.now in
    let (o, there) = item_at i.operations c.args.ground.now.op c.requires.known in
    let all = named_roots i.types c.args.ground.now.side o in
    let walk = YieldsList-from_first root_value (λ w. w) all (c.into_iter-root-iterator.ensures.into_iter_gives ∙ c.params-root-items.ensures o there) in
    let turn = YieldsList-turn walk c.loop-root.yielded _ c.loop-root.yielded_by _ _ c.in-Some.root c.in-Some.is c.next.ensures.steps in
    let few : length all ≤ 257 = few_named_roots i.types i.operations c.args.ground.now.op c.args.ground.now.side o i.legal.few_params there in
    omega (arith, few, turn.0, c.loop-root.invariant.counted)

pub loop-root-preserved : goal.loop-root-preserved
loop-root-preserved c = record {
  counted = let n = length_push c.loop-root.yielded c.in-Some.root in omega (arith, n, c.loop-root.invariant.counted);
  here = λ k u s side a.
      let i = c.args.ground.now.interface.now in
      let all = named_roots i.types c.args.ground.now.side side.operation in
      let walk = YieldsList-from_first root_value (λ w. w) all (c.into_iter-root-iterator.ensures.into_iter_gives ∙ c.params-root-items.ensures side.operation side.there) in
      let turn = YieldsList-turn walk c.loop-root.yielded _ c.loop-root.yielded_by _ _ c.in-Some.root c.in-Some.is c.next.ensures.steps in
      let root = given_root all c.loop-root.at _ (root_value c.in-Some.root) c.loop-root.invariant.counted turn in
      c.in_ok-walk_one.ensures.goes k u s (root_of_walk k c.args.ground.now side c.loop-root.at c.in-Some.root root) (c.loop-root.invariant.here k u s side a);
}

pub returns-in_err-walk_one-clause-ends : goal.returns-in_err-walk_one-clause-ends
returns-in_err-walk_one-clause-ends c k u s side a e =
    let i = c.args.ground.now.interface.now in
    let all = named_roots i.types c.args.ground.now.side side.operation in
    let walk = YieldsList-from_first root_value (λ w. w) all (c.into_iter-root-iterator.ensures.into_iter_gives ∙ c.params-root-items.ensures side.operation side.there) in
    let turn = YieldsList-turn walk c.loop-root.yielded _ c.loop-root.yielded_by _ _ c.in-Some.root c.in-Some.is c.next.ensures.steps in
    let root = given_root all c.loop-root.at _ (root_value c.in-Some.root) c.loop-root.invariant.counted turn in
    c.in_err-walk_one.ensures.ends k u s (root_of_walk k c.args.ground.now side c.loop-root.at c.in-Some.root root) (c.loop-root.invariant.here k u s side a)
    (err_as c.from_residual.result c.in_err-walk_one.field-0.0 halts.Here c.from_residual.ensures.1 e)

pub returns-clause-goes : goal.returns-clause-goes
returns-clause-goes c k u s side a =
    let i = c.args.ground.now.interface.now in
    let all = named_roots i.types c.args.ground.now.side side.operation in
    let walk = YieldsList-from_first root_value (λ w. w) all (c.into_iter-root-iterator.ensures.into_iter_gives ∙ c.params-root-items.ensures side.operation side.there) in
    let end = YieldsList-end walk c.loop-root.yielded _ c.loop-root.yielded_by _ _ c.in-None.is c.next.ensures.steps in
    no_root_left k s c.loop-root.walker c.loop-root.at (all_passed k c.args.ground.now side c.loop-root.at (omega (arith, end.1, c.loop-root.invariant.counted)))
    (c.loop-root.invariant.here k u s side a)
