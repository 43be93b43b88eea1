use Rattle.std.proofs.Common.{◌∙◌, ◌++◌, refl, ap, arith, map}
use Rattle.idl_scope.specs.Seen.{known_in}
use Rattle.idl_rule_definitions.specs.Nodes.{labels_in}
use Rattle.idl_declared_types.specs.LabelValues.{valued}
use Rattle.idl_constructs.proofs.Gathering.{gather, gathered}
use Rattle.idl_declared_types.proofs.LabelLists as lists
use Rattle.idl_declared_types.proofs.labels.labels_of_arms.Goals as goal

pub loop-arm-preserved : goal.loop-arm-preserved
loop-arm-preserved c =
    let known = known_in c.args.scope.now in
    let xs = c.deref-arm-items.result.now in
    gather (lists.of_arms known) (lists.of_arm known) (lists.arms_cons known) xs (lists.of_arms known xs)
    c.loop-arm.list.items c.add_all_said.new.list.items c.loop-arm.arm-index c.arm-item.result (omega arith) c.arm-item.is
    (c.in_ok-add_all_said.ensures ∙ ap (λ l. c.loop-arm.list.items ++ map (valued known) (labels_in l)) c.arm_attributes.ensures) c.loop-arm.invariant

pub returns : goal.returns
returns c =
    let known = known_in c.args.scope.now in
    let xs = c.deref-arm-items.result.now in
    gathered (lists.of_arms known) (lists.of_arm known) (lists.arms_cons known) xs (lists.of_arms known xs) c.loop-arm.list.items c.loop-arm.arm-index (omega arith) refl c.loop-arm.invariant
    ∙ ap (lists.of_arms known) c.deref-arm-items.ensures.value
