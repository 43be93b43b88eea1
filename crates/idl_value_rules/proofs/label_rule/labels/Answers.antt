use Rattle.std.proofs.Common.{◌∙◌, [], map, sym, ap, option_map}
use Rattle.idl_grammar.specs.Seen.{seen_type}
use Rattle.idl_rule_definitions.specs.Nodes.{labels_of}
use Rattle.idl_constructs.specs.SeenNodes.{seen_construct}
use Rattle.idl_rule_definitions.specs.DeclarationRules.{is_value_of}
use Rattle.idl_value_rules.specs.AcceptedLabels.{accepts}
use Rattle.idl_declared_types.specs.LabelValues.{valued, value_breaches}
use Rattle.idl_rule_definitions.specs.Noted.{noted}
use Rattle.idl_rule_definitions.specs.Found.{seen_breach}
use Rattle.idl_declared_types.proofs.LabelTags.{labels_others}
use Rattle.idl_value_rules.proofs.label_rule.labels.Goals as goal

pub returns-clause-first : goal.returns-clause-first
returns-clause-first c w s n names files known is tag =
    let k = seen_construct c.args.construct.now in
    let body = seen_type c.args.body.now in
    let test = accepts c.accepted_of-accepted.result in
    c.in_ok-each_label.ensures.first w files
    ∙ ap (λ l. noted w (option_map seen_breach c.args.finder.now.first) (value_breaches test k [] l))
    (c.as_slice.ensures.value ∙ c.in_ok-list.ensures ∙ ap (λ k. map (valued k) (labels_of body)) (sym known))
    ∙ ap (λ l. noted w (option_map seen_breach c.args.finder.now.first) l)
    (labels_others s names k body test (λ z. c.accepted_of-accepted.ensures s n is z ∙ ap (λ t. is_value_of s t z) tag) [] (labels_of body))
