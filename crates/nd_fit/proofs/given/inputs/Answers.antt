use Rattle.std.proofs.Common.{◌+◌, ◌≤◌, ◌++◌, ◌∙◌, length, drop, refl, ap, arith}
use Rattle.std.proofs.lemmas.List.{length_push}
use Rattle.std.proofs.lemmas.Iterator.Consumers.{YieldsList-from_first, YieldsList-turn, YieldsList-end}
use Rattle.nd_types.specs.declared.types.Side.TheVariants as side
use Rattle.nd_types.specs.Roots.{named_roots, root_value}
use Rattle.nd_value.proofs.FewRoots.{few_named_roots}
use Rattle.nd_lemmas.proofs.Lists.{item_at}
use Rattle.nd_value.proofs.LocalPass.{given_root}
use Rattle.nd_misfits.specs.Numbers.{numbers_of}
use Rattle.nd_fit.proofs.Inputs.{numbers_next, numbers_end}
use Rattle.nd_fit.proofs.given.inputs.Goals as goal

pub loop-root-init : goal.loop-root-init
loop-root-init c = record {
  counted = refl;
  left = λ o there.
      let g = c.args.graph.now in
      ap (λ ns. ns ++ numbers_of g (named_roots c.args.interface.now.types side.In o) g.roots) c.new-numbers.ensures.items;
}

pub overflow_add-at : goal.overflow_add-at
overflow_add-at c =
    let (o, there) = item_at c.args.interface.now.operations c.args.op c.requires.known in
    let i = c.args.interface.now in
    let all = named_roots i.types side.In o in
    let walk = YieldsList-from_first root_value (λ w. w) all (c.into_iter-root-iterator.ensures.into_iter_gives ∙ c.params-root-items.ensures o there) in
    let turn = YieldsList-turn walk c.loop-root.yielded _ c.loop-root.yielded_by _ _ c.in-Some.root c.in-Some.is c.next.ensures.steps in
    let few : length all ≤ 257 = few_named_roots i.types i.operations c.args.op side.In o i.legal.few_params there in
    omega (arith, few, turn.0, c.loop-root.invariant.counted)

pub loop-root-preserved : goal.loop-root-preserved
loop-root-preserved c = record {
  counted = let n = length_push c.loop-root.yielded c.in-Some.root in omega (arith, n, c.loop-root.invariant.counted);
  left = λ o there.
      let i = c.args.interface.now in
      let g = c.args.graph.now in
      let all = named_roots i.types side.In o in
      let walk = YieldsList-from_first root_value (λ w. w) all (c.into_iter-root-iterator.ensures.into_iter_gives ∙ c.params-root-items.ensures o there) in
      let turn = YieldsList-turn walk c.loop-root.yielded _ c.loop-root.yielded_by _ _ c.in-Some.root c.in-Some.is c.next.ensures.steps in
      let root = given_root _ c.loop-root.at _ (root_value c.in-Some.root) c.loop-root.invariant.counted turn in
      ap (λ ns. ns ++ numbers_of g (drop (c.loop-root.at + 1) all) (drop (c.loop-root.at + 1) g.roots)) c.in-Ok.ensures.items
      ∙ numbers_next g all g.roots c.loop-root.at (root_value c.in-Some.root) _ c.loop-root.numbers.items root
      (ap (λ n. record { param = c.in-Some.root.param; number = n }) c.root_number.ensures) (c.loop-root.invariant.left o there);
}

pub returns : goal.returns
returns c o there =
    let i = c.args.interface.now in
    let g = c.args.graph.now in
    let all = named_roots i.types side.In o in
    let walk = YieldsList-from_first root_value (λ w. w) all (c.into_iter-root-iterator.ensures.into_iter_gives ∙ c.params-root-items.ensures o there) in
    let end = YieldsList-end walk c.loop-root.yielded _ c.loop-root.yielded_by _ _ c.in-None.is c.next.ensures.steps in
    numbers_end g all g.roots c.loop-root.at c.loop-root.numbers.items (omega (arith, end.1, c.loop-root.invariant.counted)) (c.loop-root.invariant.left o there)
