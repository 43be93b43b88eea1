use Rattle.std.proofs.Common.{◌∙◌, ◌-◌, map, length, replicate, option_map, ap, sym}
use Rattle.idl_scope.specs.Seen.{seen_files}
use Rattle.idl_rule_definitions.specs.Nodes.{labels_in}
use Rattle.idl_rule_definitions.specs.Noted.{noted}
use Rattle.idl_rule_definitions.specs.Found.{seen_breach}
use Rattle.idl_constructs.specs.SeenNodes.{seen_construct}
use Rattle.idl_value_rules.specs.SeenCounts.{numbered, one_too_many}
use Rattle.idl_value_rules.proofs.Passes.{one_given, one_fewer}
use Rattle.idl_value_rules.proofs.CountedLabels.{in_arms, in_arm, arms_cons}
use Rattle.idl_value_rules.proofs.counts.labels_of_arms.Goals as goal

pub loop-arm-preserved : goal.loop-arm-preserved
loop-arm-preserved c =
    let k = seen_construct c.args.construct.now in
    let xs = c.deref-arm-items.result.now in
    let l = c.loop-arm in
    let fewer = c.labels_in-due.ensures.due ∙ ap (λ a. l.due - length (labels_in a)) c.arm_attributes.ensures in (
      c.labels_in-due.ensures.files ∙ l.invariant.0,
      one_fewer in_arms in_arm arms_cons xs k l.due _ l.arm-index _ c.arm-item.result c.loop-arm-test.true c.arm-item.is fewer l.invariant.1,
      (λ w files. one_given in_arms in_arm arms_cons xs k w l.due _ l.arm-index c.arm-item.result _ _ _ c.loop-arm-test.true c.arm-item.is fewer
          (c.labels_in-due.ensures.first w (files ∙ ap seen_files (sym l.invariant.0))
          ∙ ap (λ a. noted w (option_map seen_breach l.finder.first) (map one_too_many (numbered l.due (replicate (length (labels_in a)) k)))) c.arm_attributes.ensures)
          (l.invariant.2 w files)),
    )
