use Rattle.std.proofs.Common.{◌∙◌, ◌-◌, map, length, replicate, option_map, ap, sym}
use Rattle.idl_grammar.specs.Seen.{seen_type}
use Rattle.idl_grammar.proofs.Rows.{cases_are, arms_are}
use Rattle.idl_rule_definitions.specs.Nodes.{labels_of}
use Rattle.idl_rule_definitions.specs.Noted.{noted}
use Rattle.idl_rule_definitions.specs.Found.{seen_breach}
use Rattle.idl_constructs.specs.SeenNodes.{seen_construct}
use Rattle.idl_value_rules.specs.SeenCounts.{numbered, one_too_many}
use Rattle.idl_value_rules.proofs.counts.labels.Goals as goal

pub returns-in-EncapsulatedUnion-clause-due : goal.returns-in-EncapsulatedUnion-clause-due
returns-in-EncapsulatedUnion-clause-due c =
    let u = c.in-EncapsulatedUnion in
    c.labels_of_cases.ensures.due ∙ ap (λ t. c.args.due - length (labels_of t)) (sym (ap seen_type u.is ∙ cases_are u.at u.tag u.discriminant u.name u.cases))

pub returns-in-EncapsulatedUnion-clause-first : goal.returns-in-EncapsulatedUnion-clause-first
returns-in-EncapsulatedUnion-clause-first c w files =
    let u = c.in-EncapsulatedUnion in
    c.labels_of_cases.ensures.first w files
    ∙ ap (λ t. noted w (option_map seen_breach c.args.finder.now.first) (map one_too_many (numbered c.args.due (replicate (length (labels_of t)) (seen_construct c.args.construct.now)))))
    (sym (ap seen_type u.is ∙ cases_are u.at u.tag u.discriminant u.name u.cases))

pub returns-in-NonEncapsulatedUnion-clause-due : goal.returns-in-NonEncapsulatedUnion-clause-due
returns-in-NonEncapsulatedUnion-clause-due c =
    let u = c.in-NonEncapsulatedUnion in
    c.labels_of_arms.ensures.due ∙ ap (λ t. c.args.due - length (labels_of t)) (sym (ap seen_type u.is ∙ arms_are u.at u.tag u.arms))

pub returns-in-NonEncapsulatedUnion-clause-first : goal.returns-in-NonEncapsulatedUnion-clause-first
returns-in-NonEncapsulatedUnion-clause-first c w files =
    let u = c.in-NonEncapsulatedUnion in
    c.labels_of_arms.ensures.first w files
    ∙ ap (λ t. noted w (option_map seen_breach c.args.finder.now.first) (map one_too_many (numbered c.args.due (replicate (length (labels_of t)) (seen_construct c.args.construct.now)))))
    (sym (ap seen_type u.is ∙ arms_are u.at u.tag u.arms))
