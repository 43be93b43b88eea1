use Rattle.std.proofs.Common.{◌≡◌, ◌∙◌, map, sym, ap}
use Rattle.std.proofs.lemmas.Result.{IfOk-weaker}
use Rattle.idl_grammar.specs.Seen.{seen_type}
use Rattle.idl_grammar.proofs.Rows.{cases_are, arms_are}
use Rattle.idl_scope.specs.Seen.{known_in}
use Rattle.idl_rule_definitions.specs.Nodes.{arms_of}
use Rattle.idl_interface.specs.Made.{seen_valued, valued}
use Rattle.idl_interface.proofs.Making.{cases_left, arms_left}
use Rattle.idl_interface.proofs.arms.valued_arms.Goals as goal

pub returns-in-EncapsulatedUnion : goal.returns-in-EncapsulatedUnion
returns-in-EncapsulatedUnion c =
    let k = known_in c.args.scope.now in
    let u = c.in-EncapsulatedUnion in
    let e = ap seen_type u.is ∙ cases_are u.at u.tag u.discriminant u.name u.cases in
    IfOk-weaker c.valued_cases.result (λ v. map seen_valued v.items ≡ cases_left k u.cases.items) (λ v. map seen_valued v.items ≡ map (valued k) (arms_of (seen_type c.args.body.now)))
    (λ v h. h ∙ ap (λ t. map (valued k) (arms_of t)) (sym e)) c.valued_cases.ensures

pub returns-in-NonEncapsulatedUnion : goal.returns-in-NonEncapsulatedUnion
returns-in-NonEncapsulatedUnion c =
    let k = known_in c.args.scope.now in
    let u = c.in-NonEncapsulatedUnion in
    let e = ap seen_type u.is ∙ arms_are u.at u.tag u.arms in
    IfOk-weaker c.valued_each.result (λ v. map seen_valued v.items ≡ arms_left k u.arms.items) (λ v. map seen_valued v.items ≡ map (valued k) (arms_of (seen_type c.args.body.now)))
    (λ v h. h ∙ ap (λ t. map (valued k) (arms_of t)) (sym e)) c.valued_each.ensures
