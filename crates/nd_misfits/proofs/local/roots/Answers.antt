use Rattle.std.proofs.Common.{◌∙◌, ◌≤◌, length, refl, arith}
use Rattle.std.proofs.lemmas.List.{length_push}
use Rattle.std.proofs.lemmas.Result.{err_from_is_err_and}
use Rattle.std.proofs.lemmas.Iterator.Consumers.{YieldsList-from_first, YieldsList-turn, YieldsList-end}
use Rattle.nd_types.specs.Roots.{named_roots, root_value}
use Rattle.nd_value.specs.Seen.{tree_of}
use Rattle.nd_value.proofs.FewRoots.{few_named_roots}
use Rattle.nd_lemmas.proofs.Lists.{item_at, past_end}
use Rattle.nd_value.proofs.LocalPass.{root_next, root_missing, root_surplus, roots_end, given_root, tells_first, told_shape, later_left}
use Rattle.nd_misfits.proofs.NodeWalk.{machine_next, machine_end}
use Rattle.nd_misfits.proofs.local.roots.Goals as goal

pub loop-root-init : goal.loop-root-init
loop-root-init c = record { counted = refl; left = λ o there. refl; machine = refl }

pub returns-in_default-clause-first : goal.returns-in_default-clause-first
returns-in_default-clause-first c o there =
    let i = c.args.interface.now in
    let g = c.args.graph.now in
    let all = named_roots i.types c.args.side o in
    let walk = YieldsList-from_first root_value (λ w. w) all (c.into_iter-root-iterator.ensures.into_iter_gives ∙ c.params-root-items.ensures o there) in
    let turn = YieldsList-turn walk c.loop-root.yielded _ c.loop-root.yielded_by _ _ c.in-Some.root c.in-Some.is c.next.ensures.steps in
    let root = given_root _ c.loop-root.at _ (root_value c.in-Some.root) c.loop-root.invariant.counted turn in
    told_shape _ c.loop-root.at _ c.wrong_root.ensures
    (c.loop-root.invariant.left o there
    ∙ root_missing i.types g all g.roots c.loop-root.at (root_value c.in-Some.root) root (past_end g.roots c.loop-root.at c.in_default.ensures.none))

pub returns-in_err-home-clause-first : goal.returns-in_err-home-clause-first
returns-in_err-home-clause-first c =
    let p = err_from_is_err_and c.from_residual.result c.from_residual.ensures.1 in
    rw (p.1, p.2) (λ o there.
    let i = c.args.interface.now in
    let g = c.args.graph.now in
    let all = named_roots i.types c.args.side o in
    let walk = YieldsList-from_first root_value (λ w. w) all (c.into_iter-root-iterator.ensures.into_iter_gives ∙ c.params-root-items.ensures o there) in
    let turn = YieldsList-turn walk c.loop-root.yielded _ c.loop-root.yielded_by _ _ c.in-Some.root c.in-Some.is c.next.ensures.steps in
    let root = given_root _ c.loop-root.at _ (root_value c.in-Some.root) c.loop-root.invariant.counted turn in
    tells_first _ _ _ _
    (c.loop-root.invariant.left o there
    ∙ root_next i.types g all g.roots c.loop-root.at (root_value c.in-Some.root) (tree_of c.in-Some-get.val.now) root c.in-Some-get.ensures.some)
    c.in_err-home.ensures.first)

pub overflow_add-at : goal.overflow_add-at
overflow_add-at c =
    let (o, there) = item_at c.args.interface.now.operations c.args.op c.requires.known in
    let i = c.args.interface.now in
    let g = c.args.graph.now in
    let all = named_roots i.types c.args.side o in
    let walk = YieldsList-from_first root_value (λ w. w) all (c.into_iter-root-iterator.ensures.into_iter_gives ∙ c.params-root-items.ensures o there) in
    let turn = YieldsList-turn walk c.loop-root.yielded _ c.loop-root.yielded_by _ _ c.in-Some.root c.in-Some.is c.next.ensures.steps in
    let few : length all ≤ 257 = few_named_roots i.types i.operations c.args.op c.args.side o i.legal.few_params there in
    omega (arith, few, turn.0, c.loop-root.invariant.counted)

pub loop-root-preserved : goal.loop-root-preserved
loop-root-preserved c = record {
  counted = let n = length_push c.loop-root.yielded c.in-Some.root in omega (arith, n, c.loop-root.invariant.counted);
  left = λ o there.
      let i = c.args.interface.now in
      let g = c.args.graph.now in
      let all = named_roots i.types c.args.side o in
      let walk = YieldsList-from_first root_value (λ w. w) all (c.into_iter-root-iterator.ensures.into_iter_gives ∙ c.params-root-items.ensures o there) in
      let turn = YieldsList-turn walk c.loop-root.yielded _ c.loop-root.yielded_by _ _ c.in-Some.root c.in-Some.is c.next.ensures.steps in
      let root = given_root _ c.loop-root.at _ (root_value c.in-Some.root) c.loop-root.invariant.counted turn in
      later_left _ _ _
      (c.loop-root.invariant.left o there
      ∙ root_next i.types g all g.roots c.loop-root.at (root_value c.in-Some.root) (tree_of c.in-Some-get.val.now) root c.in-Some-get.ensures.some)
      c.in_ok-home.ensures.none;
  machine =
      c.loop-root.invariant.machine
      ∙ machine_next c.args.graph.now.roots c.loop-root.at (tree_of c.in-Some-get.val.now) c.in-Some-get.ensures.some c.in_ok-home.ensures.machine;
}

pub returns-then-len-at-clause-first : goal.returns-then-len-at-clause-first
returns-then-len-at-clause-first c o there =
    let i = c.args.interface.now in
    let g = c.args.graph.now in
    let all = named_roots i.types c.args.side o in
    let walk = YieldsList-from_first root_value (λ w. w) all (c.into_iter-root-iterator.ensures.into_iter_gives ∙ c.params-root-items.ensures o there) in
    let end = YieldsList-end walk c.loop-root.yielded _ c.loop-root.yielded_by _ _ c.in-None.is c.next.ensures.steps in
    let (v, is) = item_at g.roots c.loop-root.at (omega (arith, c.len.ensures, c.if-len-at.true)) in
    told_shape _ c.loop-root.at _ c.wrong_root-then-len-at.ensures
    (c.loop-root.invariant.left o there
    ∙ root_surplus i.types g all g.roots c.loop-root.at v (omega (arith, end.1, c.loop-root.invariant.counted)) is)

pub returns-clause-none : goal.returns-clause-none
returns-clause-none c o there =
    let i = c.args.interface.now in
    let g = c.args.graph.now in
    let all = named_roots i.types c.args.side o in
    let walk = YieldsList-from_first root_value (λ w. w) all (c.into_iter-root-iterator.ensures.into_iter_gives ∙ c.params-root-items.ensures o there) in
    let end = YieldsList-end walk c.loop-root.yielded _ c.loop-root.yielded_by _ _ c.in-None.is c.next.ensures.steps in
    c.loop-root.invariant.left o there
    ∙ roots_end i.types g all g.roots c.loop-root.at (omega (arith, end.1, c.loop-root.invariant.counted)) (omega (arith, c.len.ensures, c.if-len-at.false))

pub returns-clause-machine : goal.returns-clause-machine
returns-clause-machine c =
    c.loop-root.invariant.machine ∙ machine_end c.args.graph.now.roots c.loop-root.at (omega (arith, c.len.ensures, c.if-len-at.false))
