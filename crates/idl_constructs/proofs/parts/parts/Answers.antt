use Rattle.std.proofs.Common.{◌≡◌, ◌∙◌, map, sym, ap}
use Rattle.std.proofs.lemmas.Result.{IfOk-weaker}
use Rattle.idl_grammar.specs.Seen.{seen_type}
use Rattle.idl_grammar.proofs.Rows.{struct_is, cases_are, arms_are}
use Rattle.idl_rule_definitions.specs.Scene.{parts_declared}
use Rattle.idl_constructs.specs.SeenNodes.{seen_construct, seen_declared}
use Rattle.idl_constructs.proofs.Rests as rests
use Rattle.idl_constructs.proofs.parts.parts.Goals as goal

pub returns-in-Struct : goal.returns-in-Struct
returns-in-Struct c =
    let k = seen_construct c.args.construct.now in
    let e = ap seen_type c.in-Struct.is ∙ struct_is c.in-Struct.at c.in-Struct.tag c.in-Struct.members in
    IfOk-weaker c.members_declared.result (λ v. map seen_declared v.items ≡ rests.members_declared k c.in-Struct.members.items)
    (λ v. map seen_declared v.items ≡ parts_declared k (seen_type c.args.body.now))
    (λ v h. h ∙ ap (parts_declared k) (sym e)) c.members_declared.ensures

pub returns-in-EncapsulatedUnion : goal.returns-in-EncapsulatedUnion
returns-in-EncapsulatedUnion c =
    let k = seen_construct c.args.construct.now in
    let u = c.in-EncapsulatedUnion in
    let e = ap seen_type u.is ∙ cases_are u.at u.tag u.discriminant u.name u.cases in
    IfOk-weaker c.cases_declared.result (λ v. map seen_declared v.items ≡ rests.cases_declared k u.cases.items) (λ v. map seen_declared v.items ≡ parts_declared k (seen_type c.args.body.now))
    (λ v h. h ∙ ap (parts_declared k) (sym e)) c.cases_declared.ensures

pub returns-in-NonEncapsulatedUnion : goal.returns-in-NonEncapsulatedUnion
returns-in-NonEncapsulatedUnion c =
    let k = seen_construct c.args.construct.now in
    let u = c.in-NonEncapsulatedUnion in
    let e = ap seen_type u.is ∙ arms_are u.at u.tag u.arms in
    IfOk-weaker c.arms_declared.result (λ v. map seen_declared v.items ≡ rests.arms_declared k u.arms.items) (λ v. map seen_declared v.items ≡ parts_declared k (seen_type c.args.body.now))
    (λ v h. h ∙ ap (parts_declared k) (sym e)) c.arms_declared.ensures
