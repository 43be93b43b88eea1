use Rattle.std.proofs.Common.{rules, ◌≡◌, ◌++◌, ◌+◌, ◌-◌, add-one, ℤ, List, ℕ, codes, drop, map, replicate, subst, ap, ◌∙◌, sym, arith, Some}
use Rattle.std.specs.Fmt.{signed_decimal}
use Rattle.std.proofs.lemmas.Result.{on_ok_weaker}
use Rattle.std.proofs.lemmas.Int.{to_z-of_z}
use mir.Val.{SFits}
use mir.Syntax.{w128}
use Rattle.nd_types.specs.declared.types.TypeDef.TheVariants as def
use Rattle.nd_types.specs.Table.{type_at}
use Rattle.nd_value.specs.Tree as tree
use Rattle.nd_value.specs.Tree.{none, take_trees}
use Rattle.nd_value.specs.Nodes.{child_types}
use Rattle.nd_lemmas.proofs.Lists.{drop_next as drop-get, drop_past as drop-past}
use Rattle.nd_flat.specs.FlatForm.{flat_seen, armed_count, row_numbers}
use Rattle.nd_flat.proofs.RowLaws.{length_row_values}
use Rattle.text_printer.specs.Texts.{separator, listed, member_texts, arm_text}
use Rattle.text_printer.specs.Walks.{Writes}
use Rattle.text_printer.proofs.Walking.{next_written, fewer_after, member_then, members_over, elements_over, bytes_written, union_written, array_written}
use Rattle.text_printer.proofs.RowTexts.{row_written, one_written}
use Rattle.text_printer.proofs.walked.+walked.Goals as goal

pub append_next-append_node-requires : goal.append_next-append_node-requires
append_next-append_node-requires t c =
    (let k = fewer_after (flat_seen c.in-Some.seen) c.args.walk.now c.step.new.self c.in-Some.ensures.some in omega (arith, k, c.decreases), tt)

pub append_next-returns-clause-text : goal.append_next-returns-clause-text
append_next-returns-clause-text t c =
    on_ok_weaker c.append_node.result
    (λ h. next_written c.args.types.now c.args.of.0 (flat_seen c.in-Some.seen) c.args.text.now c.append_node.new.text c.args.walk.now c.step.new.self c.append_node.new.walk c.in-Some.ensures.some h)
    c.append_node.ensures.text

pub append_array-returns-in_ok-append_counts-in-Some-Array-clause-text : goal.append_array-returns-in_ok-append_counts-in-Some-Array-clause-text
append_array-returns-in_ok-append_counts-in-Some-Array-clause-text t c =
    let e : type_at c.args.types.now c.args.of.0 ≡ Some (def.Array c.in-Some-Array.elem c.in-Some-Array.bound c.in-Some-Array.varying) = search rules in
    on_ok_weaker c.append_list.result
    (λ h n. array_written c.args.types.now (type_at c.args.types.now c.args.of.0) c.in-Some-Array.elem c.in-Some-Array.bound c.in-Some-Array.varying c.args.max c.args.offset c.args.count
    c.args.text.now c.append_counts.new.text c.append_list.new.text c.args.walk.now c.append_list.new.walk e n (c.in_ok-append_counts-in-Some-Array.ensures) h)
    c.append_list.ensures.text

pub append_elements-loop-turn-preserved : goal.append_elements-loop-turn-preserved
append_elements-loop-turn-preserved t c =
    let l = c.loop-turn.invariant in
    let n = c.args.count in
    let i = c.loop-turn.at in
    let k = c.in_ok-some.some in
    let elem = c.args.elem.0 in
    let table = c.args.types.now in
    let left : n - (i + k) + k ≡ n - i = omega (arith, l.most, c.in_ok-some.ensures.most) in
    record {
      turns = omega (arith, l.turns, c.in_ok-some.ensures.some);
      most = omega (arith, l.most, c.in_ok-some.ensures.most);
      written = λ text' walk' h.
          l.written text' walk'
          (subst (λ m. Writes table (replicate m elem) (listed i) c.loop-turn.text c.loop-turn.walk text' walk') left
          (c.in_ok-some.ensures.text (n - (i + k)) text' walk' h));
      fewer = omega (arith, c.in_ok-some.ensures.fewer, l.fewer);
    }

pub append_elements-returns-clause-text : goal.append_elements-returns-clause-text
append_elements-returns-clause-text t c =
    let l = c.loop-turn.invariant in
    let n = c.args.count in
    let i = c.loop-turn.at in
    l.written c.loop-turn.text c.loop-turn.walk
    (elements_over c.args.types.now c.args.elem.0 (n - i) i c.loop-turn.text c.loop-turn.walk (omega (arith, l.turns, c.loop-turn-test.false)))

pub append_elements-returns-then-at-count-clause-text : goal.append_elements-returns-then-at-count-clause-text
append_elements-returns-then-at-count-clause-text t c =
    let n = c.args.count in
    let i = c.loop-turn.at in
    c.loop-turn.invariant.written c.loop-turn.text c.loop-turn.walk
    (elements_over c.args.types.now c.args.elem.0 (n - i) i c.loop-turn.text c.loop-turn.walk (omega (arith, c.if-at-count.true)))

pub append_some-returns-in-Some-clause-text : goal.append_some-returns-in-Some-clause-text
append_some-returns-in-Some-clause-text t c =
    let r = c.in-Some.row in
    row_written c.args.types.now c.args.elem.0 c.args.at r.count (row_numbers r) c.args.text.now c.append_numbers.new.text c.args.walk.now c.row.new.self
    (length_row_values r.order r.of r.count r.octets.now) c.in-Some.ensures.some c.in_ok-append_numbers.ensures

pub append_some-returns-clause-text : goal.append_some-returns-clause-text
append_some-returns-clause-text t c =
    let same : c.row.new.self ≡ c.args.walk.now = search rules in
    one_written c.args.types.now c.args.elem.0 c.args.at c.args.text.now c.append_separator.new.text c.append_next.new.text c.args.walk.now c.row.new.self c.append_next.new.walk
    same c.in_ok-append_separator.ensures c.in_ok-append_next.ensures.text

pub append_list-returns-then-are_bytes-clause-text : goal.append_list-returns-then-are_bytes-clause-text
append_list-returns-then-are_bytes-clause-text t c =
    on_ok_weaker c.append-then-are_bytes.result
    (λ z. bytes_written c.args.types.now c.args.elem.0 c.args.count c.args.text.now c.append.new.self c.append_bytes.new.text c.append-then-are_bytes.new.self c.args.walk.now c.append_bytes.new.walk
    (sym c.are_bytes.ensures ∙ c.if-are_bytes.true) c.in_ok-append.ensures.ok c.in_ok-append_bytes.ensures z)
    c.append-then-are_bytes.ensures.ok

pub append_members-loop-at-preserved : goal.append_members-loop-at-preserved
append_members-loop-at-preserved t c = record {
  written = λ text' walk' h.
      let i = c.loop-at.at in
      let table = c.args.types.now in
      let fs = c.args.members.now in
      let f = c.in-Some.member.now in
      let named : c.append_name.new.text ≡ c.loop-at.text ++ (separator i ++ (f.name ++ codes " = ")) =
      c.in_ok-append_name.ensures ∙ ap (λ (n : List ℕ). c.loop-at.text ++ (separator i ++ (n ++ codes " = "))) c.as_slice.ensures.same in
      c.loop-at.invariant.written text' walk'
      (subst (λ gs. Writes table (map (λ g. g.of.0) gs) (λ xs. listed i (member_texts gs xs)) c.loop-at.text c.loop-at.walk text' walk') (sym (drop-get fs i f c.in-Some.ensures.some))
      (member_then table (drop (i + 1) fs) i f c.loop-at.text c.append_name.new.text c.append_next.new.text text' c.loop-at.walk c.append_next.new.walk walk'
      named c.in_ok-append_next.ensures.text
      (subst (λ j. Writes table (map (λ g. g.of.0) (drop (i + 1) fs)) (λ xs. listed j (member_texts (drop (i + 1) fs) xs)) c.append_next.new.text c.append_next.new.walk text' walk')
      (add-one i) h)));
  fewer = omega (arith, c.in_ok-append_next.ensures.fewer, c.loop-at.invariant.fewer);
}

pub append_members-returns-clause-text : goal.append_members-returns-clause-text
append_members-returns-clause-text t c =
    let i = c.loop-at.at in
    c.loop-at.invariant.written c.loop-at.text c.loop-at.walk (members_over c.args.types.now (drop i c.args.members.now) i c.loop-at.text c.loop-at.walk (drop-past c.args.members.now i (omega arith)))

pub append_union-returns-clause-text : goal.append_union-returns-clause-text
append_union-returns-clause-text t c =
    let z : ℤ = c.args.tag in
    let fits : SFits w128 z = search rules in
    let d = type_at c.args.types.now c.args.of.0 in
    on_ok_weaker c.append_arm.result
    (λ h ks. union_written c.args.types.now d z _ ks c.args.text.now c.append_number.new.text c.append.new.self c.append_arm.new.text
    c.args.walk.now c.append_arm.new.walk (c.arm_type.ensures ∙ ap (λ y. child_types d (tree.Union y) none) (to_z-of_z w128 z fits))
    (c.in_ok-append_number.ensures ∙ ap (λ y. c.args.text.now ++ signed_decimal y) (to_z-of_z w128 z fits)) c.in_ok-append.ensures.ok h)
    c.append_arm.ensures.text

pub append_node-returns-in-Union-clause-text : goal.append_node-returns-in-Union-clause-text
append_node-returns-in-Union-clause-text t c =
    let z : ℤ = c.in-Union.tag in
    let fits : SFits w128 z = search rules in
    let table = c.args.types.now in
    let d = type_at table c.args.of.0 in
    let ks = take_trees (armed_count c.in-Union.armed) c.args.walk.now in
    rw c.in-Union.is
    (on_ok_weaker c.append_union.result
    (λ h n.
    subst
    (λ y. Writes table (child_types d (tree.Union y) ks) (λ xs. signed_decimal y ++ (codes ":" ++ arm_text xs)) c.args.text.now c.args.walk.now c.append_union.new.text c.append_union.new.walk)
    (to_z-of_z w128 z fits) (h ks))
    c.append_union.ensures.text)
