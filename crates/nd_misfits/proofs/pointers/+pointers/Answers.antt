use Rattle.std.proofs.Common.{◌∙◌, false, refl, sym, map, replicate, arith}
use Rattle.std.proofs.lemmas.Bool.{eqb-true}
use Rattle.nd_types.specs.declared.types.Field.{Field}
use Rattle.nd_value.specs.Tree.{trees, count}
use Rattle.nd_value.specs.Seen.{tree_of}
use Rattle.nd_lemmas.proofs.Lists.{past_end}
use Rattle.nd_misfits.proofs.NodeTests.{count_trees}
use Rattle.nd_misfits.proofs.NodeWalk.{get_replicate, get_field}
use Rattle.nd_misfits.proofs.FormWalk.{next_few, next_smaller, formed_at, tree_formed}
use Rattle.nd_misfits.proofs.PointerWalk.{collect_on}
use Rattle.nd_misfits.proofs.SimpleValues.{no_graph, nothing_found, all_simple, simple_few, simple_after}
use Rattle.nd_misfits.proofs.pointers.+pointers.Goals as goal

pub value-by_form-requires : goal.value-by_form-requires
value-by_form-requires t c =
    let f = tree_formed c.args.types.now c.args.of.0 (tree_of c.args.val.now) c.requires.formed in
    (omega (arith, c.decreases), (c.requires.few, (f.shape, (f.arm, f.kids))))

pub list-after_values-requires : goal.list-after_values-requires
list-after_values-requires t c =
    let vs = c.args.vals.now in
    let inside = c.in-Some.inside in
    let q = all_simple false c.args.types.now c.args.home no_graph c.args.elem.0 inside (count (trees vs)) c.args.node (trees vs) (sym c.in-Some.ensures) c.requires.formed in
    simple_few vs c.args.node inside c.len-count.result c.len-count.ensures q.many c.requires.few

pub list-returns-in-Some : goal.list-returns-in-Some
list-returns-in-Some t c =
    let vs = c.args.vals.now in
    let inside = c.in-Some.inside in
    let q = all_simple false c.args.types.now c.args.home no_graph c.args.elem.0 inside (count (trees vs)) c.args.node (trees vs) (sym c.in-Some.ensures) c.requires.formed in (
      nothing_found c.args.found.now.items _ (q.quiet.named refl),
      c.after_values.ensures ∙ simple_after vs c.args.node inside c.len-count.result c.len-count.ensures q.many,
    )

pub elements-value-requires : goal.elements-value-requires
elements-value-requires t c =
    let vs = c.args.vals.now in
    let types = replicate (count (trees vs)) c.args.elem.0 in
    let v = tree_of c.in-Some.val.now in
    let typed = get_replicate (count (trees vs)) c.loop-at.at c.args.elem.0 (omega (arith, count_trees vs, c.loop-at-test.true, c.len-at-end.ensures)) in
    let there = c.in-Some.ensures.some in (
      omega (arith, next_smaller vs c.loop-at.at v there, c.decreases),
      (
        omega (arith, next_few vs c.args.node c.loop-at.at c.loop-at.next v there c.loop-at.invariant.count, c.requires.few),
        formed_at c.args.types.now types vs c.loop-at.at c.args.elem.0 v c.requires.formed typed there,
      ),
    )

pub elements-loop-at-preserved : goal.elements-loop-at-preserved
elements-loop-at-preserved t c =
    let vs = c.args.vals.now in
    let types = replicate (count (trees vs)) c.args.elem.0 in
    let v = tree_of c.in-Some.val.now in
    let typed = get_replicate (count (trees vs)) c.loop-at.at c.args.elem.0 (omega (arith, count_trees vs, c.loop-at-test.true, c.len-at-end.ensures)) in
    collect_on c.args.types.now c.args.home types vs c.args.node _ c.loop-at.at c.loop-at.next _ c.args.elem.0 v typed c.in-Some.ensures.some c.loop-at.invariant _ _ c.in_ok-next.ensures

pub members-value-requires : goal.members-value-requires
members-value-requires t c =
    let vs = c.args.vals.now in
    let types = map (λ (f : Field). f.of.0) c.args.fields.now in
    let v = tree_of c.in-Some-get.val.now in
    let typed = get_field c.args.fields.now c.loop-at.at c.in-Some.field.now c.in-Some.ensures.some in
    let there = c.in-Some-get.ensures.some in (
      omega (arith, next_smaller vs c.loop-at.at v there, c.decreases),
      (
        omega (arith, next_few vs c.args.node c.loop-at.at c.loop-at.next v there c.loop-at.invariant.count, c.requires.few),
        formed_at c.args.types.now types vs c.loop-at.at c.in-Some.field.now.of.0 v c.requires.formed typed there,
      ),
    )

pub members-loop-at-preserved : goal.members-loop-at-preserved
members-loop-at-preserved t c =
    let vs = c.args.vals.now in
    let types = map (λ (f : Field). f.of.0) c.args.fields.now in
    let v = tree_of c.in-Some-get.val.now in
    let typed = get_field c.args.fields.now c.loop-at.at c.in-Some.field.now c.in-Some.ensures.some in
    collect_on c.args.types.now c.args.home types vs c.args.node _ c.loop-at.at c.loop-at.next _ c.in-Some.field.now.of.0 v typed c.in-Some-get.ensures.some c.loop-at.invariant _ _
    c.in_ok-next.ensures

pub members-unreachable-requires : goal.members-unreachable-requires
members-unreachable-requires t c =
    let same = eqb-true _ _ c.requires.shape in
    let past = past_end c.args.fields.now c.loop-at.at c.in_default.ensures.none in
    omega (arith, same, count_trees c.args.vals.now, past, c.len-at-end.ensures, c.loop-at-test.true)

pub members-unreachable-requires-in_default-get : goal.members-unreachable-requires-in_default-get
members-unreachable-requires-in_default-get t c =
    let past = past_end c.args.vals.now c.loop-at.at c.in_default-get.ensures.none in
    omega (arith, past, c.len-at-end.ensures, c.loop-at-test.true)
