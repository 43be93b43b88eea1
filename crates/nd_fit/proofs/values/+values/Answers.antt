use mir.Val.{SFits}
use mir.Syntax.{w128}
use Rattle.std.proofs.lemmas.Int.{to_z-of_z}
use Rattle.nd_flat.specs.Building.{with_node}
use Rattle.std.proofs.Common.{rules, ℤ, ◌≡◌, ◌<◌, ◌^◌, ◌∙◌, ap, sym, subst, arith}
use Rattle.std.proofs.lemmas.Result.{on_ok_weaker}
use Rattle.nd_value.specs.declared.value.Val.{Val}
use Rattle.nd_value.specs.declared.value.Val.TheVariants as val
use Rattle.nd_value.specs.Tree as tree
use Rattle.nd_value.specs.Tree.{more, none, trees, count, node_count}
use Rattle.nd_value.specs.Seen.{tree_of}
use Rattle.nd_flat.specs.FlatForm.{armed_count}
use Rattle.nd_flat.specs.Built.{Adds}
use Rattle.nd_fit.proofs.Flattening.{then_kids, few_values, keepable_at, added_on}
use Rattle.nd_misfits.proofs.NodeTests.{count_trees as count_of}
use Rattle.nd_misfits.proofs.FormWalk.{next_smaller as smaller_at}
use Rattle.nd_fit.proofs.values.+values.Goals as goal

pub add_value-overflow_cast-len : goal.add_value-overflow_cast-len
add_value-overflow_cast-len t c =
    let few : node_count (more (tree_of (val.Rec c.in-Rec.vals)) none) < 2 ^ 32 = subst (λ (v : Val). node_count (more (tree_of v) none) < 2 ^ 32) c.in-Rec.is c.requires.few in
    omega (arith, few, few_values c.in-Rec.vals, c.len.ensures)

pub add_value-overflow_cast-len-in-Arr : goal.add_value-overflow_cast-len-in-Arr
add_value-overflow_cast-len-in-Arr t c =
    let few : node_count (more (tree_of (val.Arr c.in-Arr.max c.in-Arr.offset c.in-Arr.items)) none) < 2 ^ 32 =
    subst (λ (v : Val). node_count (more (tree_of v) none) < 2 ^ 32) c.in-Arr.is c.requires.few in
    omega (arith, few, few_values c.in-Arr.items, c.len-in-Arr.ensures)

pub add_value-overflow_cast-len-in-Pipe : goal.add_value-overflow_cast-len-in-Pipe
add_value-overflow_cast-len-in-Pipe t c =
    let few : node_count (more (tree_of (val.Pipe c.in-Pipe.vals)) none) < 2 ^ 32 = subst (λ (v : Val). node_count (more (tree_of v) none) < 2 ^ 32) c.in-Pipe.is c.requires.few in
    omega (arith, few, few_values c.in-Pipe.vals, c.len-in-Pipe.ensures)

pub add_value-returns-in_ok-add-in-Rec : goal.add_value-returns-in_ok-add-in-Rec
add_value-returns-in_ok-add-in-Rec t c =
    let e : c.len.result ≡ count (trees c.in-Rec.vals) = c.len.ensures ∙ sym (count_of c.in-Rec.vals) in
    on_ok_weaker c.add_values.result
    (λ a. subst (λ (v : Val). Adds (more (tree_of v) none) c.args.builder.now c.add_values.new.builder) (sym c.in-Rec.is)
    (then_kids tree.Rec c.len.result (trees c.in-Rec.vals) c.args.builder.now c.add-in-Rec.new.self c.add_values.new.builder e c.in_ok-add-in-Rec.ensures.ok a))
    c.add_values.ensures

pub add_value-returns-in_ok-add-in-Arr : goal.add_value-returns-in_ok-add-in-Arr
add_value-returns-in_ok-add-in-Arr t c =
    let e : c.len-in-Arr.result ≡ count (trees c.in-Arr.items) = c.len-in-Arr.ensures ∙ sym (count_of c.in-Arr.items) in
    on_ok_weaker c.add_elements.result
    (λ a. subst (λ (v : Val). Adds (more (tree_of v) none) c.args.builder.now c.add_elements.new.builder) (sym c.in-Arr.is)
    (then_kids (tree.Arr c.in-Arr.max c.in-Arr.offset) c.len-in-Arr.result
    (trees c.in-Arr.items) c.args.builder.now c.add-in-Arr.new.self c.add_elements.new.builder e c.in_ok-add-in-Arr.ensures.ok a))
    c.add_elements.ensures

pub add_value-returns-in_ok-add-in-Pipe : goal.add_value-returns-in_ok-add-in-Pipe
add_value-returns-in_ok-add-in-Pipe t c =
    let e : c.len-in-Pipe.result ≡ count (trees c.in-Pipe.vals) = c.len-in-Pipe.ensures ∙ sym (count_of c.in-Pipe.vals) in
    on_ok_weaker c.add_elements-in-Pipe.result
    (λ a. subst (λ (v : Val). Adds (more (tree_of v) none) c.args.builder.now c.add_elements-in-Pipe.new.builder) (sym c.in-Pipe.is)
    (then_kids tree.Pipe c.len-in-Pipe.result (trees c.in-Pipe.vals) c.args.builder.now c.add-in-Pipe.new.self c.add_elements-in-Pipe.new.builder e c.in_ok-add-in-Pipe.ensures.ok a))
    c.add_elements-in-Pipe.ensures

pub add_value-returns-in_ok-add-in-Union : goal.add_value-returns-in_ok-add-in-Union
add_value-returns-in_ok-add-in-Union t c =
    let z : ℤ = c.in-Union.tag in
    let fits : SFits w128 z = search rules in
    let k = armed_count c.is_armed.result in
    let m : c.add-in-Union.new.self ≡ with_node (tree.Union z, k) c.args.builder.now =
    c.in_ok-add-in-Union.ensures.ok ∙ ap (λ (y : ℤ). with_node (tree.Union y, k) c.args.builder.now) (to_z-of_z w128 z fits) in
    on_ok_weaker c.add_arm.result
    (λ a. subst (λ (v : Val). Adds (more (tree_of v) none) c.args.builder.now c.add_arm.new.builder) (sym c.in-Union.is)
    (then_kids (tree.Union c.in-Union.tag) (armed_count c.is_armed.result) (trees c.in-Union.value) c.args.builder.now c.add-in-Union.new.self c.add_arm.new.builder
    c.is_armed.ensures m a))
    c.add_arm.ensures

pub add_values-add_value-requires : goal.add_values-add_value-requires
add_values-add_value-requires t c =
    let vs = c.args.vals.now in
    let v = tree_of c.in-Some.val.now in
    let there = c.in-Some.ensures.some in
    (omega (arith, smaller_at vs c.loop-at.at v there, c.decreases), (omega (arith, smaller_at vs c.loop-at.at v there, c.requires.few), keepable_at vs c.loop-at.at v there c.requires.keepable))

pub add_values-loop-at-preserved : goal.add_values-loop-at-preserved
add_values-loop-at-preserved t c =
    added_on c.args.vals.now c.args.builder.now c.loop-at.at c.loop-at.builder c.add_value.new.builder (tree_of c.in-Some.val.now) c.in-Some.ensures.some c.loop-at.invariant
    c.in_ok-add_value.ensures

pub add_elements-add_numbers-requires-clause-few : goal.add_elements-add_numbers-requires-clause-few
add_elements-add_numbers-requires-clause-few t c = omega (arith, c.requires.few, few_values c.args.vals.now)
