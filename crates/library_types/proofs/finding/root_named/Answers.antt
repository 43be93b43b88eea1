use Rattle.std.proofs.Common.{◌≤◌, ◌∙◌, length, refl, arith}
use Rattle.std.proofs.lemmas.List.{length_push}
use Rattle.std.proofs.lemmas.Iterator.Consumers.{YieldsList-from_first, YieldsList-turn, YieldsList-end}
use Rattle.nd_types.specs.Roots.{NamedRoot, named_roots, root_value}
use Rattle.nd_value.proofs.FewRoots.{few_named_roots}
use Rattle.nd_value.proofs.LocalPass.{given_root}
use Rattle.nd_lemmas.proofs.Lists.{item_at}
use Rattle.library_types.proofs.Searching.{same_names, other_names, none_first, none_more, none_at_all}
use Rattle.library_types.proofs.finding.root_named.Goals as goal

pub loop-root-init : goal.loop-root-init
loop-root-init c = record { counted = refl; others = λ o there. none_first NamedRoot (λ r. r.name) _ _ }

pub overflow_add-at : goal.overflow_add-at
overflow_add-at c =
    let (o, there) = item_at c.args.interface.now.operations c.args.op c.requires in
    let i = c.args.interface.now in
    let all = named_roots i.types c.args.side o in
    let walk = YieldsList-from_first root_value (λ w. w) all (c.into_iter-root-iterator.ensures.into_iter_gives ∙ c.params-root-items.ensures o there) in
    let turn = YieldsList-turn walk c.loop-root.yielded _ c.loop-root.yielded_by _ _ c.in-Some.root c.in-Some.is c.next.ensures.steps in
    let few : length all ≤ 257 = few_named_roots i.types i.operations c.args.op c.args.side o i.legal.few_params there in
    omega (arith, few, turn.0, c.loop-root.invariant.counted)

pub returns-then-eq-clause-some : goal.returns-then-eq-clause-some
returns-then-eq-clause-some c o there =
    let i = c.args.interface.now in
    let all = named_roots i.types c.args.side o in
    let walk = YieldsList-from_first root_value (λ w. w) all (c.into_iter-root-iterator.ensures.into_iter_gives ∙ c.params-root-items.ensures o there) in
    let turn = YieldsList-turn walk c.loop-root.yielded _ c.loop-root.yielded_by _ _ c.in-Some.root c.in-Some.is c.next.ensures.steps in
    record {
      root = root_value c.in-Some.root;
      there = given_root all c.loop-root.at _ (root_value c.in-Some.root) c.loop-root.invariant.counted turn;
      name_is = same_names c.in-Some.root.name.now c.args.name.now c.eq.result c.eq.ensures c.if-eq.true;
      type_is = refl;
      first = c.loop-root.invariant.others o there;
    }

pub loop-root-preserved : goal.loop-root-preserved
loop-root-preserved c = record {
  counted = let n = length_push c.loop-root.yielded c.in-Some.root in omega (arith, n, c.loop-root.invariant.counted);
  others = λ o there.
      let i = c.args.interface.now in
      let all = named_roots i.types c.args.side o in
      let walk = YieldsList-from_first root_value (λ w. w) all (c.into_iter-root-iterator.ensures.into_iter_gives ∙ c.params-root-items.ensures o there) in
      let turn = YieldsList-turn walk c.loop-root.yielded _ c.loop-root.yielded_by _ _ c.in-Some.root c.in-Some.is c.next.ensures.steps in
      none_more NamedRoot (λ r. r.name) all c.args.name.now c.loop-root.at (root_value c.in-Some.root) (c.loop-root.invariant.others o there)
      (given_root all c.loop-root.at _ (root_value c.in-Some.root) c.loop-root.invariant.counted turn)
      (other_names c.in-Some.root.name.now c.args.name.now c.eq.result c.eq.ensures c.if-eq.false);
}

pub returns-clause-none : goal.returns-clause-none
returns-clause-none c o there =
    let i = c.args.interface.now in
    let all = named_roots i.types c.args.side o in
    let walk = YieldsList-from_first root_value (λ w. w) all (c.into_iter-root-iterator.ensures.into_iter_gives ∙ c.params-root-items.ensures o there) in
    let end = YieldsList-end walk c.loop-root.yielded _ c.loop-root.yielded_by _ _ c.in-None.is c.next.ensures.steps in
    none_at_all NamedRoot (λ r. r.name) all c.args.name.now c.loop-root.at (omega (arith, end.1, c.loop-root.invariant.counted)) (c.loop-root.invariant.others o there)
