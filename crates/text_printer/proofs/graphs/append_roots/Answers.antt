use Rattle.std.proofs.Common.{arith, ◌≤◌, ◌∙◌, length, ◌+◌, drop}
use Rattle.std.proofs.lemmas.List.{length_push}
use Rattle.std.proofs.lemmas.Iterator.Consumers.{YieldsList-from_first, YieldsList-turn, YieldsList-end}
use Rattle.nd_types.specs.Roots.{named_roots, root_value}
use Rattle.nd_value.specs.Setting.{root_at}
use Rattle.nd_value.proofs.FewRoots.{few_named_roots}
use Rattle.nd_lemmas.proofs.Lists.{item_at}
use Rattle.nd_value.proofs.LocalPass.{given_root}
use Rattle.text_printer.specs.Texts.{root_text, roots_text}
use Rattle.text_printer.proofs.Listing.{comes_on, comes_all}
use Rattle.text_printer.proofs.Lines.{root_next, roots_past, roots_end, root_there, root_begins}
use Rattle.text_printer.proofs.graphs.append_roots.Goals as goal

pub overflow_add-at : goal.overflow_add-at
overflow_add-at c =
    let (o, there) = item_at c.args.interface.now.operations c.args.op c.requires in
    let i = c.args.interface.now in
    let all = named_roots i.types c.args.side o in
    let walk = YieldsList-from_first root_value (λ w. w) all (c.into_iter-root-iterator.ensures.into_iter_gives ∙ c.params-root-items.ensures o there) in
    let turn = YieldsList-turn walk c.loop-root.yielded _ c.loop-root.yielded_by _ _ c.in-Some.root c.in-Some.is c.next.ensures.steps in
    let few : length all ≤ 257 = few_named_roots i.types i.operations c.args.op c.args.side o i.legal.few_params there in
    omega (arith, few, turn.0, c.loop-root.invariant.counted)

pub loop-root-preserved : goal.loop-root-preserved
loop-root-preserved c = record {
  counted = let n = length_push c.loop-root.yielded c.in-Some.root in omega (arith, n, c.loop-root.invariant.counted);
  written = λ o there whole.
      let i = c.args.interface.now in
      let all = named_roots i.types c.args.side o in
      let vs = c.args.graph.now.roots in
      let at = c.loop-root.at in
      let walk = YieldsList-from_first root_value (λ w. w) all (c.into_iter-root-iterator.ensures.into_iter_gives ∙ c.params-root-items.ensures o there) in
      let turn = YieldsList-turn walk c.loop-root.yielded _ c.loop-root.yielded_by _ _ c.in-Some.root c.in-Some.is c.next.ensures.steps in
      let root = given_root all at _ (root_value c.in-Some.root) c.loop-root.invariant.counted turn in
      let v = root_at c.args.graph.now at in
      let is = root_there vs at (omega arith) in
      comes_on c.loop-root.text c.append_root.new.text (root_text i.types (root_value c.in-Some.root) v) _
      (roots_text i.types (drop (at + 1) all) (drop (at + 1) vs)) c.args.text.now (roots_text i.types all vs)
      (c.loop-root.invariant.written o there whole)
      (root_next i.types all vs at (root_value c.in-Some.root) v root is)
      (c.in_ok-append_root.ensures v c.root_walk-walk.ensures (root_begins i.types all vs at (root_value c.in-Some.root) v root is whole));
}

pub returns : goal.returns
returns c o there whole =
    let i = c.args.interface.now in
    let all = named_roots i.types c.args.side o in
    let walk = YieldsList-from_first root_value (λ w. w) all (c.into_iter-root-iterator.ensures.into_iter_gives ∙ c.params-root-items.ensures o there) in
    let end = YieldsList-end walk c.loop-root.yielded _ c.loop-root.yielded_by _ _ c.in-None.is c.next.ensures.steps in
    let past : length all ≤ c.loop-root.at = omega (arith, end.1, c.loop-root.invariant.counted) in
    comes_all c.loop-root.text _ c.args.text.now (roots_text i.types all c.args.graph.now.roots) (c.loop-root.invariant.written o there whole)
    (roots_past i.types all c.args.graph.now.roots c.loop-root.at past)

pub returns-then-at-root_count : goal.returns-then-at-root_count
returns-then-at-root_count c o there whole =
    let i = c.args.interface.now in
    let all = named_roots i.types c.args.side o in
    let vs = c.args.graph.now.roots in
    comes_all c.loop-root.text _ c.args.text.now (roots_text i.types all vs) (c.loop-root.invariant.written o there whole)
    (roots_end i.types all vs c.loop-root.at (omega arith))
