use Rattle.std.proofs.Common.{[], true, ap, sym, ◌∙◌, map, replicate, arith}
use Rattle.std.proofs.lemmas.Bool.{eqb-true}
use Rattle.std.proofs.lemmas.Result.{err_from_is_err_and}
use Rattle.nd_types.specs.declared.types.Field.{Field}
use Rattle.nd_value.specs.Tree.{trees, count}
use Rattle.nd_value.specs.Seen.{tree_of}
use Rattle.nd_value.specs.Agreement.{member_agreements}
use Rattle.nd_value.specs.Conforms.{disagreement_of}
use Rattle.nd_lemmas.proofs.Lists.{past_end}
use Rattle.nd_misfits.specs.Disagreeing.{subject_in}
use Rattle.nd_misfits.proofs.NodeTests.{count_trees}
use Rattle.nd_misfits.proofs.NodeWalk.{get_replicate, get_field}
use Rattle.nd_misfits.proofs.FormWalk.{next_few, next_smaller, formed_at, tree_formed}
use Rattle.nd_misfits.proofs.AgreementWalk.{compare_on, compare_stop, compare_here, governs_none, governs_found, none_stated, get_agreements}
use Rattle.nd_value.specs.declared.item.Home.TheVariants as home
use Rattle.nd_misfits.proofs.SimpleValues.{all_simple, simple_few, simple_after}
use Rattle.nd_misfits.proofs.SmallNumbers.{small_members}
use Rattle.nd_misfits.proofs.compared.+compared.Goals as goal

pub value-by_form-requires : goal.value-by_form-requires
value-by_form-requires t c =
    let f = tree_formed c.args.types.now c.args.of.0 (tree_of c.args.val.now) c.requires.formed in
    (omega (arith, c.decreases), (c.requires.few, (f.shape, (f.arm, f.kids))))

pub list-after_values-requires : goal.list-after_values-requires
list-after_values-requires t c =
    let vs = c.args.vals.now in
    let inside = c.in-Some.inside in
    let q = all_simple true c.args.types.now (home.Root 0) c.args.graph.now c.args.elem.0 inside (count (trees vs)) c.args.node (trees vs) (sym c.in-Some.ensures) c.requires.formed in
    simple_few vs c.args.node inside c.len-count.result c.len-count.ensures q.many c.requires.few

pub list-returns-in-Some : goal.list-returns-in-Some
list-returns-in-Some t c =
    let vs = c.args.vals.now in
    let inside = c.in-Some.inside in
    let q = all_simple true c.args.types.now (home.Root 0) c.args.graph.now c.args.elem.0 inside (count (trees vs)) c.args.node (trees vs) (sym c.in-Some.ensures) c.requires.formed in
    (q.quiet.agree, c.after_values.ensures ∙ simple_after vs c.args.node inside c.len-count.result c.len-count.ensures q.many)

pub elements-value-requires : goal.elements-value-requires
elements-value-requires t c =
    let vs = c.args.vals.now in
    let types = replicate (count (trees vs)) c.args.elem.0 in
    let v = tree_of c.in-Some.val.now in
    let typed = get_replicate (count (trees vs)) c.loop-at.at c.args.elem.0 (omega (arith, count_trees vs, c.loop-at-test.true, c.len-at-end.ensures)) in
    let there = c.in-Some.ensures.some in (
      omega (arith, next_smaller vs c.loop-at.at v there, c.decreases),
      (
        omega (arith, next_few vs c.args.node c.loop-at.at c.loop-at.next v there c.loop-at.invariant.count, c.requires.few),
        formed_at c.args.types.now types vs c.loop-at.at c.args.elem.0 v c.requires.formed typed there,
      ),
    )

pub elements-returns-in_err-next : goal.elements-returns-in_err-next
elements-returns-in_err-next t c =
    let vs = c.args.vals.now in
    let types = replicate (count (trees vs)) c.args.elem.0 in
    let v = tree_of c.in-Some.val.now in
    let typed = get_replicate (count (trees vs)) c.loop-at.at c.args.elem.0 (omega (arith, count_trees vs, c.loop-at-test.true, c.len-at-end.ensures)) in
    let p = err_from_is_err_and c.from_residual.result c.from_residual.ensures.1 in
    let own = ap (disagreement_of (subject_in c.args.graph.now v)) (governs_none c.loop-at.at) ∙ none_stated (subject_in c.args.graph.now v) in
    rw (p.1, p.2)
    (compare_stop c.args.types.now c.args.graph.now types [] vs c.args.node c.loop-at.at c.loop-at.next c.args.elem.0 v typed c.in-Some.ensures.some c.loop-at.invariant own _
    c.in_err-next.ensures)

pub elements-loop-at-preserved : goal.elements-loop-at-preserved
elements-loop-at-preserved t c =
    let vs = c.args.vals.now in
    let types = replicate (count (trees vs)) c.args.elem.0 in
    let v = tree_of c.in-Some.val.now in
    let typed = get_replicate (count (trees vs)) c.loop-at.at c.args.elem.0 (omega (arith, count_trees vs, c.loop-at-test.true, c.len-at-end.ensures)) in
    let own = ap (disagreement_of (subject_in c.args.graph.now v)) (governs_none c.loop-at.at) ∙ none_stated (subject_in c.args.graph.now v) in
    compare_on c.args.types.now c.args.graph.now types [] vs c.args.node c.loop-at.at c.loop-at.next c.args.elem.0 v typed c.in-Some.ensures.some c.loop-at.invariant own _ c.in_ok-next.ensures

pub members-member-requires : goal.members-member-requires
members-member-requires t c = record { small = small_members c.args.types.now (map (λ (f : Field). f.of.0) c.args.fields.now) c.args.vals.now c.requires.formed }

pub members-returns-in-Some-member : goal.members-returns-in-Some-member
members-returns-in-Some-member t c =
    let vs = c.args.vals.now in
    let fs = c.args.fields.now in
    let types = map (λ (f : Field). f.of.0) fs in
    let ags = map (λ (f : Field). member_agreements (trees vs) f.vars) fs in
    let v = tree_of c.in-Some-get.val.now in
    let f = c.in-Some.field.now in
    let typed = get_field fs c.loop-at.at f c.in-Some.ensures.some in
    let own =
    ap (disagreement_of (subject_in c.args.graph.now v))
    (governs_found ags c.loop-at.at (member_agreements (trees vs) f.vars) (get_agreements (trees vs) fs c.loop-at.at f c.in-Some.ensures.some)) in
    compare_here c.args.types.now c.args.graph.now types ags vs c.args.node c.loop-at.at c.loop-at.next f.of.0 v typed c.in-Some-get.ensures.some c.loop-at.invariant _
    (own ∙ sym c.in-Some-member.ensures)

pub members-value-requires : goal.members-value-requires
members-value-requires t c =
    let vs = c.args.vals.now in
    let types = map (λ (f : Field). f.of.0) c.args.fields.now in
    let v = tree_of c.in-Some-get.val.now in
    let typed = get_field c.args.fields.now c.loop-at.at c.in-Some.field.now c.in-Some.ensures.some in
    let there = c.in-Some-get.ensures.some in (
      omega (arith, next_smaller vs c.loop-at.at v there, c.decreases),
      (
        omega (arith, next_few vs c.args.node c.loop-at.at c.loop-at.next v there c.loop-at.invariant.count, c.requires.few),
        formed_at c.args.types.now types vs c.loop-at.at c.in-Some.field.now.of.0 v c.requires.formed typed there,
      ),
    )

pub members-returns-in_err-next : goal.members-returns-in_err-next
members-returns-in_err-next t c =
    let vs = c.args.vals.now in
    let fs = c.args.fields.now in
    let types = map (λ (f : Field). f.of.0) fs in
    let ags = map (λ (f : Field). member_agreements (trees vs) f.vars) fs in
    let v = tree_of c.in-Some-get.val.now in
    let f = c.in-Some.field.now in
    let typed = get_field fs c.loop-at.at f c.in-Some.ensures.some in
    let own =
    ap (disagreement_of (subject_in c.args.graph.now v))
    (governs_found ags c.loop-at.at (member_agreements (trees vs) f.vars) (get_agreements (trees vs) fs c.loop-at.at f c.in-Some.ensures.some)) in
    let p = err_from_is_err_and c.from_residual.result c.from_residual.ensures.1 in
    rw (p.1, p.2) (compare_stop c.args.types.now c.args.graph.now types ags vs c.args.node c.loop-at.at c.loop-at.next f.of.0 v typed c.in-Some-get.ensures.some c.loop-at.invariant
    (own ∙ sym c.in_default-member.ensures) _ c.in_err-next.ensures)

pub members-loop-at-preserved : goal.members-loop-at-preserved
members-loop-at-preserved t c =
    let vs = c.args.vals.now in
    let fs = c.args.fields.now in
    let types = map (λ (f : Field). f.of.0) fs in
    let ags = map (λ (f : Field). member_agreements (trees vs) f.vars) fs in
    let v = tree_of c.in-Some-get.val.now in
    let f = c.in-Some.field.now in
    let typed = get_field fs c.loop-at.at f c.in-Some.ensures.some in
    let own =
    ap (disagreement_of (subject_in c.args.graph.now v))
    (governs_found ags c.loop-at.at (member_agreements (trees vs) f.vars) (get_agreements (trees vs) fs c.loop-at.at f c.in-Some.ensures.some)) in
    compare_on c.args.types.now c.args.graph.now types ags vs c.args.node c.loop-at.at c.loop-at.next f.of.0 v typed c.in-Some-get.ensures.some c.loop-at.invariant
    (own ∙ sym c.in_default-member.ensures) _ c.in_ok-next.ensures

pub members-unreachable-requires : goal.members-unreachable-requires
members-unreachable-requires t c =
    let same = eqb-true _ _ c.requires.shape in
    let past = past_end c.args.fields.now c.loop-at.at c.in_default.ensures.none in
    omega (arith, same, count_trees c.args.vals.now, past, c.len-at-end.ensures, c.loop-at-test.true)

pub members-unreachable-requires-in_default-get : goal.members-unreachable-requires-in_default-get
members-unreachable-requires-in_default-get t c =
    let past = past_end c.args.vals.now c.loop-at.at c.in_default-get.ensures.none in
    omega (arith, past, c.len-at-end.ensures, c.loop-at-test.true)
