use Rattle.std.proofs.Common.{◌≡◌, ◌∙◌, map, sym, ap}
use Rattle.std.proofs.lemmas.Result.{IfOk-weaker}
use Rattle.idl_grammar.specs.Seen.{seen_type}
use Rattle.idl_grammar.proofs.Rows.{cases_are, arms_are}
use Rattle.idl_scope.specs.Seen.{known_in}
use Rattle.idl_rule_definitions.specs.Nodes.{labels_of}
use Rattle.idl_declared_types.specs.LabelValues.{valued}
use Rattle.idl_declared_types.proofs.LabelLists as lists
use Rattle.idl_declared_types.proofs.labels.labels_of.Goals as goal

pub returns-in-EncapsulatedUnion : goal.returns-in-EncapsulatedUnion
returns-in-EncapsulatedUnion c =
    let known = known_in c.args.scope.now in
    let u = c.in-EncapsulatedUnion in
    let e = ap seen_type u.is ∙ cases_are u.at u.tag u.discriminant u.name u.cases in
    IfOk-weaker c.labels_of_cases.result (λ v. v.items ≡ lists.of_cases known u.cases.items) (λ v. v.items ≡ map (valued known) (labels_of (seen_type c.args.body.now)))
    (λ v h. h ∙ ap (λ t. map (valued known) (labels_of t)) (sym e)) c.labels_of_cases.ensures

pub returns-in-NonEncapsulatedUnion : goal.returns-in-NonEncapsulatedUnion
returns-in-NonEncapsulatedUnion c =
    let known = known_in c.args.scope.now in
    let u = c.in-NonEncapsulatedUnion in
    let e = ap seen_type u.is ∙ arms_are u.at u.tag u.arms in
    IfOk-weaker c.labels_of_arms.result (λ v. v.items ≡ lists.of_arms known u.arms.items) (λ v. v.items ≡ map (valued known) (labels_of (seen_type c.args.body.now)))
    (λ v h. h ∙ ap (λ t. map (valued known) (labels_of t)) (sym e)) c.labels_of_arms.ensures
