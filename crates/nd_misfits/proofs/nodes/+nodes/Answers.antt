use Rattle.std.proofs.Common.{map, replicate, arith}
use Rattle.std.proofs.lemmas.Bool.{eqb-true}
use Rattle.std.proofs.lemmas.Result.{err_from_is_err_and}
use Rattle.nd_types.specs.declared.types.Field.{Field}
use Rattle.nd_value.specs.Tree.{trees, count}
use Rattle.nd_value.specs.Seen.{tree_of}
use Rattle.nd_lemmas.proofs.Lists.{past_end}
use Rattle.nd_misfits.proofs.NodeTests.{count_trees}
use Rattle.nd_misfits.proofs.NodeWalk.{get_replicate, get_field, walk_few, walk_smaller, walk_on, walk_stop}
use Rattle.nd_misfits.proofs.nodes.+nodes.Goals as goal

pub elements-value-requires : goal.elements-value-requires
elements-value-requires t c =
    let vs = c.args.vals.now in
    let types = replicate (count (trees vs)) c.args.elem.0 in
    let v = tree_of c.in-Some.val.now in
    let typed = get_replicate (count (trees vs)) c.loop-at.at c.args.elem.0 (omega (arith, count_trees vs, c.loop-at-test.true, c.len-at-end.ensures)) in (
      omega (arith, walk_smaller c.args.types.now c.args.graph.now types vs c.args.node c.loop-at.at c.loop-at.next c.args.elem.0 v typed c.in-Some.ensures.some c.loop-at.invariant, c.decreases),
      omega (arith, walk_few c.args.types.now c.args.graph.now types vs c.args.node c.loop-at.at c.loop-at.next c.args.elem.0 v typed c.in-Some.ensures.some c.loop-at.invariant, c.requires.few),
    )

pub elements-returns-in_err-next : goal.elements-returns-in_err-next
elements-returns-in_err-next t c =
    let vs = c.args.vals.now in
    let types = replicate (count (trees vs)) c.args.elem.0 in
    let v = tree_of c.in-Some.val.now in
    let typed = get_replicate (count (trees vs)) c.loop-at.at c.args.elem.0 (omega (arith, count_trees vs, c.loop-at-test.true, c.len-at-end.ensures)) in
    let p = err_from_is_err_and c.from_residual.result c.from_residual.ensures.1 in
    rw (p.1, p.2)
    (walk_stop c.args.types.now c.args.graph.now types vs c.args.node c.loop-at.at c.loop-at.next c.args.elem.0 v typed c.in-Some.ensures.some c.loop-at.invariant _ c.in_err-next.ensures)

pub elements-loop-at-preserved : goal.elements-loop-at-preserved
elements-loop-at-preserved t c =
    let vs = c.args.vals.now in
    let types = replicate (count (trees vs)) c.args.elem.0 in
    let v = tree_of c.in-Some.val.now in
    let typed = get_replicate (count (trees vs)) c.loop-at.at c.args.elem.0 (omega (arith, count_trees vs, c.loop-at-test.true, c.len-at-end.ensures)) in
    walk_on c.args.types.now c.args.graph.now types vs c.args.node c.loop-at.at c.loop-at.next c.args.elem.0 v typed c.in-Some.ensures.some c.loop-at.invariant _ c.in_ok-next.ensures

pub members-value-requires : goal.members-value-requires
members-value-requires t c =
    let vs = c.args.vals.now in
    let types = map (λ (f : Field). f.of.0) c.args.fields.now in
    let v = tree_of c.in-Some-get.val.now in
    let typed = get_field c.args.fields.now c.loop-at.at c.in-Some.field.now c.in-Some.ensures.some in (
      omega (
        arith,
        walk_smaller c.args.types.now c.args.graph.now types vs c.args.node c.loop-at.at c.loop-at.next c.in-Some.field.now.of.0 v typed c.in-Some-get.ensures.some c.loop-at.invariant,
        c.decreases,
      ),
      omega (
        arith,
        walk_few c.args.types.now c.args.graph.now types vs c.args.node c.loop-at.at c.loop-at.next c.in-Some.field.now.of.0 v typed c.in-Some-get.ensures.some c.loop-at.invariant,
        c.requires.few,
      ),
    )

pub members-returns-in_err-next : goal.members-returns-in_err-next
members-returns-in_err-next t c =
    let vs = c.args.vals.now in
    let types = map (λ (f : Field). f.of.0) c.args.fields.now in
    let v = tree_of c.in-Some-get.val.now in
    let typed = get_field c.args.fields.now c.loop-at.at c.in-Some.field.now c.in-Some.ensures.some in
    let p = err_from_is_err_and c.from_residual.result c.from_residual.ensures.1 in
    rw (p.1, p.2)
    (walk_stop c.args.types.now c.args.graph.now types vs c.args.node c.loop-at.at c.loop-at.next c.in-Some.field.now.of.0 v typed c.in-Some-get.ensures.some c.loop-at.invariant _
    c.in_err-next.ensures)

pub members-loop-at-preserved : goal.members-loop-at-preserved
members-loop-at-preserved t c =
    let vs = c.args.vals.now in
    let types = map (λ (f : Field). f.of.0) c.args.fields.now in
    let v = tree_of c.in-Some-get.val.now in
    let typed = get_field c.args.fields.now c.loop-at.at c.in-Some.field.now c.in-Some.ensures.some in
    walk_on c.args.types.now c.args.graph.now types vs c.args.node c.loop-at.at c.loop-at.next c.in-Some.field.now.of.0 v typed c.in-Some-get.ensures.some c.loop-at.invariant _ c.in_ok-next.ensures

pub members-unreachable-requires : goal.members-unreachable-requires
members-unreachable-requires t c =
    let same = eqb-true _ _ c.requires.shape in
    let past = past_end c.args.fields.now c.loop-at.at c.in_default.ensures.none in
    omega (arith, same, count_trees c.args.vals.now, past, c.len-at-end.ensures, c.loop-at-test.true)

pub members-unreachable-requires-in_default-get : goal.members-unreachable-requires-in_default-get
members-unreachable-requires-in_default-get t c =
    let past = past_end c.args.vals.now c.loop-at.at c.in_default-get.ensures.none in
    omega (arith, past, c.len-at-end.ensures, c.loop-at-test.true)
