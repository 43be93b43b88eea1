use Rattle.std.proofs.Common.{◌+◌, ◌≤◌, ◌++◌, ◌∙◌, length, drop, map, refl, ap, sym, arith}
use Rattle.std.proofs.lemmas.List.{length_push, append-nil}
use Rattle.std.proofs.lemmas.Iterator.Consumers.{YieldsList-from_first, YieldsList-turn, YieldsList-end}
use Rattle.nd_types.specs.Roots.{named_roots, root_value}
use Rattle.nd_value.specs.Seen.{tree_of}
use Rattle.nd_misfits.specs.HomeList.{home_tree, root_homes}
use Rattle.nd_value.proofs.FewRoots.{few_named_roots}
use Rattle.nd_lemmas.proofs.Lists.{item_at, past_end}
use Rattle.nd_value.proofs.LocalPass.{given_root}
use Rattle.nd_misfits.proofs.HomeWalk.{home_pushed, root_more, root_none, root_past}
use Rattle.nd_misfits.proofs.homes.roots.Goals as goal

pub loop-root-init : goal.loop-root-init
loop-root-init c = record {
  counted = refl;
  left = λ o there.
      let i = c.args.interface.now in
      ap (λ hs. map home_tree hs ++ root_homes 0 (named_roots i.types c.args.side o) c.args.graph.now.roots) c.new-homes.ensures.items;
}

pub returns-in_default : goal.returns-in_default
returns-in_default c o there =
    let i = c.args.interface.now in
    let g = c.args.graph.now in
    let all = named_roots i.types c.args.side o in
    let walk = YieldsList-from_first root_value (λ w. w) all (c.into_iter-root-iterator.ensures.into_iter_gives ∙ c.params-root-items.ensures o there) in
    let turn = YieldsList-turn walk c.loop-root.yielded _ c.loop-root.yielded_by _ _ c.in-Some.root c.in-Some.is c.next.ensures.steps in
    let root = given_root _ c.loop-root.at _ (root_value c.in-Some.root) c.loop-root.invariant.counted turn in
    let hs = map home_tree c.loop-root.homes.items in
    sym (append-nil hs) ∙ sym (ap (λ xs. hs ++ xs) (root_none all g.roots c.loop-root.at (root_value c.in-Some.root) root (past_end g.roots c.loop-root.at c.in_default.ensures.none)))
    ∙ c.loop-root.invariant.left o there

pub overflow_add-at : goal.overflow_add-at
overflow_add-at c =
    let (o, there) = item_at c.args.interface.now.operations c.args.op c.requires.known in
    let i = c.args.interface.now in
    let all = named_roots i.types c.args.side o in
    let walk = YieldsList-from_first root_value (λ w. w) all (c.into_iter-root-iterator.ensures.into_iter_gives ∙ c.params-root-items.ensures o there) in
    let turn = YieldsList-turn walk c.loop-root.yielded _ c.loop-root.yielded_by _ _ c.in-Some.root c.in-Some.is c.next.ensures.steps in
    let few : length all ≤ 257 = few_named_roots i.types i.operations c.args.op c.args.side o i.legal.few_params there in
    omega (arith, few, turn.0, c.loop-root.invariant.counted)

pub loop-root-preserved : goal.loop-root-preserved
loop-root-preserved c = record {
  counted = let n = length_push c.loop-root.yielded c.in-Some.root in omega (arith, n, c.loop-root.invariant.counted);
  left = λ o there.
      let i = c.args.interface.now in
      let g = c.args.graph.now in
      let all = named_roots i.types c.args.side o in
      let walk = YieldsList-from_first root_value (λ w. w) all (c.into_iter-root-iterator.ensures.into_iter_gives ∙ c.params-root-items.ensures o there) in
      let turn = YieldsList-turn walk c.loop-root.yielded _ c.loop-root.yielded_by _ _ c.in-Some.root c.in-Some.is c.next.ensures.steps in
      let root = given_root _ c.loop-root.at _ (root_value c.in-Some.root) c.loop-root.invariant.counted turn in
      let rest = root_homes (c.loop-root.at + 1) (drop (c.loop-root.at + 1) all) (drop (c.loop-root.at + 1) g.roots) in
      ap (λ hs. map home_tree hs ++ rest) c.in-Ok.ensures.items
      ∙ home_pushed c.loop-root.homes.items _ _ _ rest refl
      (root_more all g.roots c.loop-root.at (root_value c.in-Some.root) (tree_of c.in-Some-get.val.now) root c.in-Some-get.ensures.some)
      ∙ c.loop-root.invariant.left o there;
}

pub returns : goal.returns
returns c o there =
    let i = c.args.interface.now in
    let g = c.args.graph.now in
    let all = named_roots i.types c.args.side o in
    let walk = YieldsList-from_first root_value (λ w. w) all (c.into_iter-root-iterator.ensures.into_iter_gives ∙ c.params-root-items.ensures o there) in
    let end = YieldsList-end walk c.loop-root.yielded _ c.loop-root.yielded_by _ _ c.in-None.is c.next.ensures.steps in
    let hs = map home_tree c.loop-root.homes.items in
    sym (append-nil hs) ∙ sym (ap (λ xs. hs ++ xs) (root_past all g.roots c.loop-root.at (omega (arith, end.1, c.loop-root.invariant.counted))))
    ∙ c.loop-root.invariant.left o there
