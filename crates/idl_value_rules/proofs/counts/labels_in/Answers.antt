use Rattle.std.proofs.Common.{◌∙◌, ℕ, ◌-◌, map, replicate, option_map, ap, sym}
use Rattle.idl_scope.specs.Seen.{seen_files}
use Rattle.idl_rule_definitions.specs.Noted.{noted}
use Rattle.idl_rule_definitions.specs.Found.{seen_breach}
use Rattle.idl_constructs.specs.SeenNodes.{seen_construct}
use Rattle.idl_value_rules.specs.SeenCounts.{numbered, one_too_many}
use Rattle.idl_value_rules.proofs.Passes.{one_given, one_fewer}
use Rattle.idl_value_rules.proofs.CountedLabels.{in_attributes, in_attribute, attributes_cons}
use Rattle.idl_value_rules.proofs.counts.labels_in.Goals as goal

pub loop-attribute-preserved : goal.loop-attribute-preserved
loop-attribute-preserved c =
    let k = seen_construct c.args.construct.now in
    let l = c.loop-attribute in
    let fewer = c.pass-due.ensures.due ∙ ap (λ (n : ℕ). l.due - n) c.labels_said.ensures in (
      c.pass-due.ensures.files ∙ l.invariant.0,
      one_fewer in_attributes in_attribute attributes_cons c.args.attributes.now k l.due _ l.attribute-index _ c.attribute-item.result c.loop-attribute-test.true c.attribute-item.is fewer
          l.invariant.1,
      (λ w files. one_given in_attributes in_attribute attributes_cons c.args.attributes.now k w l.due _ l.attribute-index c.attribute-item.result _ _ _ c.loop-attribute-test.true c.attribute-item.is
          fewer
          (c.pass-due.ensures.first w (files ∙ ap seen_files (sym l.invariant.0))
          ∙ ap (λ (n : ℕ). noted w (option_map seen_breach l.finder.first) (map one_too_many (numbered l.due (replicate n k)))) c.labels_said.ensures)
          (l.invariant.2 w files)),
    )
