use Rattle.std.proofs.Common.{rules, ℤ, ap, sym, ◌∙◌}
use Rattle.std.proofs.lemmas.Result.{IfOk-weaker}
use Rattle.std.proofs.lemmas.Int.{to_z-of_z}
use mir.Val.{SFits}
use mir.Syntax.{w128}
use Rattle.nd_types.specs.Table.{type_at}
use Rattle.nd_value.specs.Tree.{trees}
use Rattle.text_printer.specs.Steps.{seen_step, union_arm}
use Rattle.text_printer.proofs.Nodes.{struct_step, array_step, pipe_step, union_step, no_parts}
use Rattle.text_printer.proofs.paths.next_step.Goals as goal

pub returns-in-Rec : goal.returns-in-Rec
returns-in-Rec c =
    rw c.in-Rec.is
    (IfOk-weaker c.to_member.result _ _
    (λ x h. struct_step c.args.types.now c.args.of.0 c.args.text.now (trees c.in-Rec.vals) _ c.args.node c.to_member.new.text (seen_step x) (sym c.members_of.ensures) (h c.args.types.now))
    c.to_member.ensures)

pub returns-in-Arr : goal.returns-in-Arr
returns-in-Arr c =
    rw c.in-Arr.is
    (IfOk-weaker c.to_element.result _ _
    (λ x h. array_step c.args.types.now c.args.of.0 _ c.in-Arr.offset c.args.text.now (trees c.in-Arr.items) _ c.args.node c.to_element.new.text (seen_step x)
    (c.array_elem.ensures _ c.in-Arr.offset (trees c.in-Arr.items)) (h c.args.types.now))
    c.to_element.ensures)

pub returns-in-Pipe : goal.returns-in-Pipe
returns-in-Pipe c =
    rw c.in-Pipe.is
    (IfOk-weaker c.to_element-in-Pipe.result _ _
    (λ x h. pipe_step c.args.types.now c.args.of.0 c.args.text.now (trees c.in-Pipe.items) _ c.args.node c.to_element-in-Pipe.new.text (seen_step x)
    (c.pipe_elem.ensures (trees c.in-Pipe.items)) (h c.args.types.now))
    c.to_element-in-Pipe.ensures)

pub returns-in-Union : goal.returns-in-Union
returns-in-Union c =
    let z : ℤ = c.in-Union.tag in
    let fits : SFits w128 z = search rules in
    let d = type_at c.args.types.now c.args.of.0 in
    rw c.in-Union.is
    (IfOk-weaker c.to_arm.result _ _
    (λ x h. union_step c.args.types.now c.args.of.0 z c.args.text.now (trees c.in-Union.arm) _ c.args.node c.to_arm.new.text (seen_step x)
    (sym (c.arm_of.ensures ∙ ap (union_arm d) (to_z-of_z w128 z fits))) (h c.args.types.now))
    c.to_arm.ensures)

pub returns-in-Num : goal.returns-in-Num
returns-in-Num c = rw c.in-Num.is (no_parts c.args.types.now c.args.of.0 _ c.args.node c.args.text.now c.args.text.now)

pub returns-in-Text : goal.returns-in-Text
returns-in-Text c = rw c.in-Text.is (no_parts c.args.types.now c.args.of.0 _ c.args.node c.args.text.now c.args.text.now)

pub returns-in-Ptr : goal.returns-in-Ptr
returns-in-Ptr c = rw c.in-Ptr.is (no_parts c.args.types.now c.args.of.0 _ c.args.node c.args.text.now c.args.text.now)

pub returns-in-Context : goal.returns-in-Context
returns-in-Context c = rw c.in-Context.is (no_parts c.args.types.now c.args.of.0 _ c.args.node c.args.text.now c.args.text.now)
