use Rattle.std.proofs.Common.{arith, ap, ◌≤◌, ◌∙◌, sym, length}
use Rattle.std.proofs.lemmas.List.{length_push}
use Rattle.std.proofs.lemmas.Iterator.Consumers.{YieldsList-from_first, YieldsList-turn, YieldsList-end}
use Rattle.std.specs.List.{slice_get}
use Rattle.nd_types.specs.Roots.{named_roots, root_value}
use Rattle.nd_value.proofs.FewRoots.{few_named_roots}
use Rattle.nd_lemmas.proofs.Lists.{item_at}
use Rattle.nd_value.proofs.LocalPass.{given_root}
use Rattle.std.proofs.lemmas.Option.{slice_get_past as get_past}
use Rattle.text_printer.proofs.paths.root_at.Goals as goal

pub returns-then-place-at : goal.returns-then-place-at
returns-then-place-at c o there =
    let i = c.args.interface.now in
    let all = named_roots i.types c.args.side o in
    let walk = YieldsList-from_first root_value (λ w. w) all (c.into_iter-root-iterator.ensures.into_iter_gives ∙ c.params-root-items.ensures o there) in
    let turn = YieldsList-turn walk c.loop-root.yielded _ c.loop-root.yielded_by _ _ c.in-Some.root c.in-Some.is c.next.ensures.steps in
    let root = given_root all c.loop-root.place _ (root_value c.in-Some.root) c.loop-root.invariant.counted turn in
    sym root ∙ ap (slice_get all) c.if-place-at.true

pub overflow_add-place : goal.overflow_add-place
overflow_add-place c =
    let (o, there) = item_at c.args.interface.now.operations c.args.op c.requires in
    let i = c.args.interface.now in
    let all = named_roots i.types c.args.side o in
    let walk = YieldsList-from_first root_value (λ w. w) all (c.into_iter-root-iterator.ensures.into_iter_gives ∙ c.params-root-items.ensures o there) in
    let turn = YieldsList-turn walk c.loop-root.yielded _ c.loop-root.yielded_by _ _ c.in-Some.root c.in-Some.is c.next.ensures.steps in
    let few : length all ≤ 257 = few_named_roots i.types i.operations c.args.op c.args.side o i.legal.few_params there in
    omega (arith, few, turn.0, c.loop-root.invariant.counted)

pub loop-root-preserved : goal.loop-root-preserved
loop-root-preserved c = record {
  counted = let n = length_push c.loop-root.yielded c.in-Some.root in omega (arith, n, c.loop-root.invariant.counted);
  before = omega (arith, c.loop-root.invariant.before, c.if-place-at.false);
}

pub returns : goal.returns
returns c o there =
    let i = c.args.interface.now in
    let all = named_roots i.types c.args.side o in
    let walk = YieldsList-from_first root_value (λ w. w) all (c.into_iter-root-iterator.ensures.into_iter_gives ∙ c.params-root-items.ensures o there) in
    let end = YieldsList-end walk c.loop-root.yielded _ c.loop-root.yielded_by _ _ c.in-None.is c.next.ensures.steps in
    let past : length all ≤ c.args.at = omega (arith, end.1, c.loop-root.invariant.counted, c.loop-root.invariant.before) in
    sym (get_past all c.args.at past)
