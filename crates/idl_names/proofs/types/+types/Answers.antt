use Rattle.std.proofs.Common.{◌≡◌, ◌∙◌, ◌+◌, ◌++◌, [], sym, ap, subst, refl, arith, Bool, List, drop, map, option_map, Ok, Err, false}
use Rattle.std.specs.List.{flat_map, list_all}
use Rattle.idl_grammar.specs.Seen as seen
use Rattle.idl_scope.specs.Known.{walked}
use Rattle.idl_scope.specs.Kept.{listed, is_memory, IsRight}
use Rattle.idl_scope.specs.Steps.{Step, Declare, Know}
use Rattle.idl_scope.specs.Steps as steps
use Rattle.idl_names.proofs.Walked.{both_on, later_stop, right_stop, right_on, at_fault, told_fault, turn, turn_fault, turns_end}
use Rattle.idl_names.proofs.Rests as rests
use Rattle.idl_grammar.specs.Tree as tree
use Rattle.idl_grammar.specs.Reading.{members_of, cases_of, arms_of}
use Rattle.idl_grammar.specs.declared.types.TagKind.TheVariants as tag_kind
use Rattle.idl_grammar.specs.declared.types.Arm.{Arm}
use Rattle.idl_grammar.specs.declared.declarators.Declarator.{Declarator}
use Rattle.idl_grammar.proofs.Rows.{struct_is, cases_are, arms_are}
use Rattle.idl_names.proofs.types.+types.Goals as goal

pub arm-returns-in_err-optional_attributes-in-Typed : goal.arm-returns-in_err-optional_attributes-in-Typed
arm-returns-in_err-optional_attributes-in-Typed t c =
    let file = c.args.file in
    let k = c.args.names.now in
    let o : List Step = steps.optional_attribute_steps (option_map seen.seen_attributes c.in-Typed.attributes) in
    let ts = λ (b : Bool). steps.type_steps b (seen.seen_type c.in-Typed.of) in
    let u : List Step = ts (steps.is_pointer (seen.seen_declarator c.in-Typed.declarator)) in
    let d : List Step = steps.dimension_steps (seen.seen_declarator c.in-Typed.declarator) in
    subst (λ (x : Arm). IsRight k c.from_residual.result (walked file k (steps.arm_steps (seen.seen_arm x)))) (sym c.in-Typed.is)
    (at_fault k c.from_residual.result c.in_err-optional_attributes-in-Typed.field-0.0 (walked file k (o ++ u ++ d))
    (told_fault c.from_residual.result c.in_err-optional_attributes-in-Typed.field-0.0 c.from_residual.ensures.1)
    (right_stop file k (o ++ u) d c.in_err-optional_attributes-in-Typed.field-0.0
    (right_stop file k o u c.in_err-optional_attributes-in-Typed.field-0.0 c.in_err-optional_attributes-in-Typed.ensures)))

pub arm-returns-in_err-type_spec-in-Typed : goal.arm-returns-in_err-type_spec-in-Typed
arm-returns-in_err-type_spec-in-Typed t c =
    let file = c.args.file in
    let k = c.args.names.now in
    let o : List Step = steps.optional_attribute_steps (option_map seen.seen_attributes c.in-Typed.attributes) in
    let ts = λ (b : Bool). steps.type_steps b (seen.seen_type c.in-Typed.of) in
    let u : List Step = ts (steps.is_pointer (seen.seen_declarator c.in-Typed.declarator)) in
    let d : List Step = steps.dimension_steps (seen.seen_declarator c.in-Typed.declarator) in
    subst (λ (x : Arm). IsRight c.type_spec.new.names c.from_residual-in_err-type_spec-in-Typed.result (walked file k (steps.arm_steps (seen.seen_arm x)))) (sym c.in-Typed.is)
    (at_fault c.type_spec.new.names c.from_residual-in_err-type_spec-in-Typed.result c.in_err-type_spec-in-Typed.field-0.0 (walked file k (o ++ u ++ d))
    (told_fault c.from_residual-in_err-type_spec-in-Typed.result c.in_err-type_spec-in-Typed.field-0.0 c.from_residual-in_err-type_spec-in-Typed.ensures.1)
    (right_stop file k (o ++ u) d c.in_err-type_spec-in-Typed.field-0.0
    (later_stop file k k o u c.in_err-type_spec-in-Typed.field-0.0 c.in_ok-optional_attributes-in-Typed.ensures
    (subst (λ b. is_memory c.in_err-type_spec-in-Typed.field-0.0 ≡ false
    → walked file k (ts b) ≡ Err c.in_err-type_spec-in-Typed.field-0.0) c.is_pointer-behind_pointers.ensures c.in_err-type_spec-in-Typed.ensures))))

pub arm-returns-in_ok-type_spec-in-Typed : goal.arm-returns-in_ok-type_spec-in-Typed
arm-returns-in_ok-type_spec-in-Typed t c =
    let file = c.args.file in
    let k = c.args.names.now in
    let o : List Step = steps.optional_attribute_steps (option_map seen.seen_attributes c.in-Typed.attributes) in
    let ts = λ (b : Bool). steps.type_steps b (seen.seen_type c.in-Typed.of) in
    let u : List Step = ts (steps.is_pointer (seen.seen_declarator c.in-Typed.declarator)) in
    let d : List Step = steps.dimension_steps (seen.seen_declarator c.in-Typed.declarator) in
    subst (λ (x : Arm). IsRight c.type_spec.new.names c.dimensions.result (walked file k (steps.arm_steps (seen.seen_arm x)))) (sym c.in-Typed.is)
    (right_on file k c.type_spec.new.names c.type_spec.new.names (o ++ u) d c.dimensions.result
    (both_on file k k c.type_spec.new.names o u c.in_ok-optional_attributes-in-Typed.ensures
    (subst (λ b. walked file k (ts b) ≡ Ok c.type_spec.new.names) c.is_pointer-behind_pointers.ensures c.in_ok-type_spec-in-Typed.ensures)) c.dimensions.ensures)

pub case-returns-in_err-labels : goal.case-returns-in_err-labels
case-returns-in_err-labels t c =
    let file = c.args.file in
    let k = c.args.names.now in
    let l : List Step = flat_map steps.label_steps (map seen.seen_label c.args.case.now.labels.items) in
    let u : List Step = steps.arm_steps (seen.seen_arm c.args.case.now.arm) in
    at_fault k c.from_residual.result c.in_err-labels.field-0.0 (walked file k (l ++ u))
    (told_fault c.from_residual.result c.in_err-labels.field-0.0 c.from_residual.ensures.1)
    (right_stop file k l u c.in_err-labels.field-0.0 c.in_err-labels.ensures)

pub case-returns : goal.case-returns
case-returns t c =
    let file = c.args.file in
    let k = c.args.names.now in
    let l : List Step = flat_map steps.label_steps (map seen.seen_label c.args.case.now.labels.items) in
    let u : List Step = steps.arm_steps (seen.seen_arm c.args.case.now.arm) in
    right_on file k k c.arm.new.names l u c.arm.result c.in_ok-labels.ensures c.arm.ensures

pub member-returns-in_err-optional_attributes-clause-right : goal.member-returns-in_err-optional_attributes-clause-right
member-returns-in_err-optional_attributes-clause-right t c =
    let file = c.args.file in
    let k = c.args.names.now in
    let before = listed c.args.list.now in
    let o : List Step = steps.optional_attribute_steps (option_map seen.seen_attributes c.args.member.now.attributes) in
    let ts = λ (b : Bool). steps.type_steps b (seen.seen_type c.args.member.now.of) in
    let u : List Step = ts (list_all steps.is_pointer (map seen.seen_declarator c.args.member.now.declarators.items)) in
    let l : List Step = steps.enlisted_steps before (map seen.seen_declarator c.args.member.now.declarators.items) in
    at_fault k c.from_residual.result c.in_err-optional_attributes.field-0.0 (walked file k (o ++ u ++ l))
    (told_fault c.from_residual.result c.in_err-optional_attributes.field-0.0 c.from_residual.ensures.1)
    (right_stop file k (o ++ u) l c.in_err-optional_attributes.field-0.0
    (right_stop file k o u c.in_err-optional_attributes.field-0.0 c.in_err-optional_attributes.ensures))

pub member-returns-in_err-type_spec-clause-right : goal.member-returns-in_err-type_spec-clause-right
member-returns-in_err-type_spec-clause-right t c =
    let file = c.args.file in
    let k = c.args.names.now in
    let before = listed c.args.list.now in
    let o : List Step = steps.optional_attribute_steps (option_map seen.seen_attributes c.args.member.now.attributes) in
    let ts = λ (b : Bool). steps.type_steps b (seen.seen_type c.args.member.now.of) in
    let u : List Step = ts (list_all steps.is_pointer (map seen.seen_declarator c.args.member.now.declarators.items)) in
    let l : List Step = steps.enlisted_steps before (map seen.seen_declarator c.args.member.now.declarators.items) in
    let bp : c.are_pointers-behind_pointers.result ≡ list_all steps.is_pointer (map seen.seen_declarator c.args.member.now.declarators.items) =
    c.are_pointers-behind_pointers.ensures ∙ ap (λ (xs : List Declarator). list_all steps.is_pointer (map seen.seen_declarator xs)) c.as_slice.ensures.value in
    at_fault c.type_spec.new.names c.from_residual-in_err-type_spec.result c.in_err-type_spec.field-0.0 (walked file k (o ++ u ++ l))
    (told_fault c.from_residual-in_err-type_spec.result c.in_err-type_spec.field-0.0 c.from_residual-in_err-type_spec.ensures.1)
    (right_stop file k (o ++ u) l c.in_err-type_spec.field-0.0
    (later_stop file k k o u c.in_err-type_spec.field-0.0 c.in_ok-optional_attributes.ensures
    (subst (λ b. is_memory c.in_err-type_spec.field-0.0 ≡ false → walked file k (ts b) ≡ Err c.in_err-type_spec.field-0.0) bp c.in_err-type_spec.ensures)))

pub member-returns-clause-right : goal.member-returns-clause-right
member-returns-clause-right t c =
    let file = c.args.file in
    let k = c.args.names.now in
    let before = listed c.args.list.now in
    let o : List Step = steps.optional_attribute_steps (option_map seen.seen_attributes c.args.member.now.attributes) in
    let ts = λ (b : Bool). steps.type_steps b (seen.seen_type c.args.member.now.of) in
    let u : List Step = ts (list_all steps.is_pointer (map seen.seen_declarator c.args.member.now.declarators.items)) in
    let l : List Step = steps.enlisted_steps before (map seen.seen_declarator c.args.member.now.declarators.items) in
    let bp : c.are_pointers-behind_pointers.result ≡ list_all steps.is_pointer (map seen.seen_declarator c.args.member.now.declarators.items) =
    c.are_pointers-behind_pointers.ensures ∙ ap (λ (xs : List Declarator). list_all steps.is_pointer (map seen.seen_declarator xs)) c.as_slice.ensures.value in
    right_on file k c.type_spec.new.names c.type_spec.new.names (o ++ u) l c.listed_declarators.result
    (both_on file k k c.type_spec.new.names o u c.in_ok-optional_attributes.ensures (subst (λ b. walked file k (ts b) ≡ Ok c.type_spec.new.names) bp c.in_ok-type_spec.ensures))
    (subst (λ (xs : List Declarator). IsRight c.type_spec.new.names c.listed_declarators.result
    (walked file c.type_spec.new.names (steps.enlisted_steps before (map seen.seen_declarator xs)))) c.as_slice-2.ensures.value c.listed_declarators.ensures.right)

pub type_spec-returns-in_ok-tag-in-Struct : goal.type_spec-returns-in_ok-tag-in-Struct
type_spec-returns-in_ok-tag-in-Struct t c =
    let file = c.args.file in
    let k = c.args.names.now in
    let s0 : List Step = steps.tag_steps tag_kind.Struct c.in-Struct.name in
    let s1 : List Step = steps.member_steps [] (members_of (map seen.seen_member c.in-Struct.list.items)) in
    subst (λ (y : tree.TypeSpec). IsRight c.members.new.names c.members.result (walked file k (steps.type_steps c.args.behind_pointers y)))
    (sym (ap seen.seen_type c.in-Struct.is ∙ struct_is c.in-Struct.at c.in-Struct.name c.in-Struct.list))
    (right_on file k c.tag.new.names c.members.new.names s0 s1 c.members.result c.in_ok-tag-in-Struct.ensures c.members.ensures)

pub type_spec-returns-in_ok-switch_type-in-EncapsulatedUnion : goal.type_spec-returns-in_ok-switch_type-in-EncapsulatedUnion
type_spec-returns-in_ok-switch_type-in-EncapsulatedUnion t c =
    let file = c.args.file in
    let k = c.args.names.now in
    let s0 : List Step = steps.tag_steps tag_kind.Union c.in-EncapsulatedUnion.name in
    let s1 : List Step = steps.switch_steps c.in-EncapsulatedUnion.discriminant.of in
    let s2 : List Step = steps.case_steps (cases_of (map seen.seen_case c.in-EncapsulatedUnion.list.items)) in
    subst (λ (y : tree.TypeSpec). IsRight c.cases.new.names c.cases.result (walked file k (steps.type_steps c.args.behind_pointers y)))
    (sym (ap seen.seen_type c.in-EncapsulatedUnion.is
    ∙ cases_are c.in-EncapsulatedUnion.at c.in-EncapsulatedUnion.name c.in-EncapsulatedUnion.discriminant c.in-EncapsulatedUnion.name' c.in-EncapsulatedUnion.list))
    (right_on file k c.tag-in-EncapsulatedUnion.new.names c.cases.new.names (s0 ++ s1) s2 c.cases.result
    (both_on file k c.tag-in-EncapsulatedUnion.new.names c.tag-in-EncapsulatedUnion.new.names s0 s1 c.in_ok-tag-in-EncapsulatedUnion.ensures c.in_ok-switch_type-in-EncapsulatedUnion.ensures)
    c.cases.ensures)

pub type_spec-returns-in_ok-tag-in-NonEncapsulatedUnion : goal.type_spec-returns-in_ok-tag-in-NonEncapsulatedUnion
type_spec-returns-in_ok-tag-in-NonEncapsulatedUnion t c =
    let file = c.args.file in
    let k = c.args.names.now in
    let s0 : List Step = steps.tag_steps tag_kind.Union c.in-NonEncapsulatedUnion.name in
    let s1 : List Step = steps.arms_steps (arms_of (map seen.seen_arm c.in-NonEncapsulatedUnion.list.items)) in
    subst (λ (y : tree.TypeSpec). IsRight c.arms.new.names c.arms.result (walked file k (steps.type_steps c.args.behind_pointers y)))
    (sym (ap seen.seen_type c.in-NonEncapsulatedUnion.is ∙ arms_are c.in-NonEncapsulatedUnion.at c.in-NonEncapsulatedUnion.name c.in-NonEncapsulatedUnion.list))
    (right_on file k c.tag-in-NonEncapsulatedUnion.new.names c.arms.new.names s0 s1 c.arms.result c.in_ok-tag-in-NonEncapsulatedUnion.ensures c.arms.ensures)

pub members-loop-one-preserved : goal.members-loop-one-preserved
members-loop-one-preserved t c =
    ap (λ s. walked c.args.file c.member.new.names (rests.members_from s (drop (c.loop-one.one-index + 1) c.deref-one-items.result.now))) c.in_ok-member.ensures.more
    ∙ (turn rests.members_from rests.one_member rests.after_member rests.members_cons c.deref-one-items.result.now c.args.file c.loop-one.names c.member.new.names
    (listed c.loop-one.before) c.loop-one.one-index c.one-item.result (omega arith) c.one-item.is c.in_ok-member.ensures.right
    ∙ c.loop-one.invariant)

pub members-returns-in_err-member : goal.members-returns-in_err-member
members-returns-in_err-member t c =
    turn_fault rests.members_from rests.one_member rests.after_member rests.members_cons c.deref-one-items.result.now c.args.file c.loop-one.names c.member.new.names
    (listed c.loop-one.before) c.loop-one.one-index c.one-item.result c.from_residual.result c.in_err-member.field-0.0
    (walked c.args.file c.args.names.now (rests.members_from [] c.args.list.now.items)) (omega arith) c.one-item.is
    (c.loop-one.invariant ∙ ap (λ xs. walked c.args.file c.args.names.now (rests.members_from [] xs)) c.deref-one-items.ensures.value)
    (told_fault c.from_residual.result c.in_err-member.field-0.0 c.from_residual.ensures.1) c.in_err-member.ensures.right

pub members-returns : goal.members-returns
members-returns t c =
    ap (λ xs. walked c.args.file c.args.names.now (rests.members_from [] xs)) (sym c.deref-one-items.ensures.value)
    ∙ (sym c.loop-one.invariant
    ∙ turns_end rests.members_from rests.one_member rests.after_member rests.members_cons c.deref-one-items.result.now c.args.file c.loop-one.names (listed c.loop-one.before) c.loop-one.one-index
    (omega arith) refl)

pub cases-loop-one-preserved : goal.cases-loop-one-preserved
cases-loop-one-preserved t c =
    turn rests.cases_from rests.one_case rests.after_case rests.cases_cons c.deref-one-items.result.now c.args.file c.loop-one.names c.case.new.names 0 c.loop-one.one-index c.one-item.result
    (omega arith) c.one-item.is c.in_ok-case.ensures
    ∙ c.loop-one.invariant

pub cases-returns-in_err-case : goal.cases-returns-in_err-case
cases-returns-in_err-case t c =
    turn_fault rests.cases_from rests.one_case rests.after_case rests.cases_cons c.deref-one-items.result.now c.args.file c.loop-one.names c.case.new.names 0 c.loop-one.one-index c.one-item.result
    c.from_residual.result c.in_err-case.field-0.0
    (walked c.args.file c.args.names.now (rests.cases_from 0 c.args.list.now.items)) (omega arith) c.one-item.is
    (c.loop-one.invariant ∙ ap (λ xs. walked c.args.file c.args.names.now (rests.cases_from 0 xs)) c.deref-one-items.ensures.value)
    (told_fault c.from_residual.result c.in_err-case.field-0.0 c.from_residual.ensures.1) c.in_err-case.ensures

pub cases-returns : goal.cases-returns
cases-returns t c =
    ap (λ xs. walked c.args.file c.args.names.now (rests.cases_from 0 xs)) (sym c.deref-one-items.ensures.value)
    ∙ (sym c.loop-one.invariant
    ∙ turns_end rests.cases_from rests.one_case rests.after_case rests.cases_cons c.deref-one-items.result.now c.args.file c.loop-one.names 0 c.loop-one.one-index (omega arith) refl)

pub arms-loop-one-preserved : goal.arms-loop-one-preserved
arms-loop-one-preserved t c =
    turn rests.arms_from rests.one_arm rests.after_arm rests.arms_cons c.deref-one-items.result.now c.args.file c.loop-one.names c.arm.new.names 0 c.loop-one.one-index c.one-item.result
    (omega arith) c.one-item.is c.in_ok-arm.ensures
    ∙ c.loop-one.invariant

pub arms-returns-in_err-arm : goal.arms-returns-in_err-arm
arms-returns-in_err-arm t c =
    turn_fault rests.arms_from rests.one_arm rests.after_arm rests.arms_cons c.deref-one-items.result.now c.args.file c.loop-one.names c.arm.new.names 0 c.loop-one.one-index c.one-item.result
    c.from_residual.result c.in_err-arm.field-0.0
    (walked c.args.file c.args.names.now (rests.arms_from 0 c.args.list.now.items)) (omega arith) c.one-item.is
    (c.loop-one.invariant ∙ ap (λ xs. walked c.args.file c.args.names.now (rests.arms_from 0 xs)) c.deref-one-items.ensures.value)
    (told_fault c.from_residual.result c.in_err-arm.field-0.0 c.from_residual.ensures.1) c.in_err-arm.ensures

pub arms-returns : goal.arms-returns
arms-returns t c =
    ap (λ xs. walked c.args.file c.args.names.now (rests.arms_from 0 xs)) (sym c.deref-one-items.ensures.value)
    ∙ (sym c.loop-one.invariant
    ∙ turns_end rests.arms_from rests.one_arm rests.after_arm rests.arms_cons c.deref-one-items.result.now c.args.file c.loop-one.names 0 c.loop-one.one-index (omega arith) refl)
