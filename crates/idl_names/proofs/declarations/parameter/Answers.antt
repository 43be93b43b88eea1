use Rattle.std.proofs.Common.{◌≡◌, ◌++◌, subst, Bool, List, option_map, Ok, Err, false}
use Rattle.idl_grammar.specs.Seen as seen
use Rattle.idl_scope.specs.Known.{walked}
use Rattle.idl_scope.specs.Kept.{listed, is_memory}
use Rattle.idl_scope.specs.Steps.{Step, Declare, Know}
use Rattle.idl_scope.specs.Steps as steps
use Rattle.idl_names.proofs.Walked.{both_on, later_stop, right_stop, right_on, at_fault, told_fault}
use Rattle.idl_names.proofs.declarations.parameter.Goals as goal

pub returns-in_err-optional_attributes-clause-right : goal.returns-in_err-optional_attributes-clause-right
returns-in_err-optional_attributes-clause-right c =
    let file = c.args.file in
    let k = c.args.names.now in
    let before = listed c.args.list.now in
    let o : List Step = steps.optional_attribute_steps (option_map seen.seen_attributes c.args.parameter.now.attributes) in
    let ts = λ (b : Bool). steps.type_steps b (seen.seen_type c.args.parameter.now.of) in
    let pointer = steps.is_pointer (seen.seen_declarator c.args.parameter.now.declarator) in
    let t : List Step = ts pointer in
    let l : List Step = steps.listed_steps before (seen.seen_declarator c.args.parameter.now.declarator) in
    at_fault k c.from_residual.result c.in_err-optional_attributes.field-0.0 (walked file k (o ++ t ++ l))
    (told_fault c.from_residual.result c.in_err-optional_attributes.field-0.0 c.from_residual.ensures.1)
    (right_stop file k (o ++ t) l c.in_err-optional_attributes.field-0.0
    (right_stop file k o t c.in_err-optional_attributes.field-0.0 c.in_err-optional_attributes.ensures))

pub returns-in_err-type_spec-clause-right : goal.returns-in_err-type_spec-clause-right
returns-in_err-type_spec-clause-right c =
    let file = c.args.file in
    let k = c.args.names.now in
    let before = listed c.args.list.now in
    let o : List Step = steps.optional_attribute_steps (option_map seen.seen_attributes c.args.parameter.now.attributes) in
    let ts = λ (b : Bool). steps.type_steps b (seen.seen_type c.args.parameter.now.of) in
    let pointer = steps.is_pointer (seen.seen_declarator c.args.parameter.now.declarator) in
    let t : List Step = ts pointer in
    let l : List Step = steps.listed_steps before (seen.seen_declarator c.args.parameter.now.declarator) in
    at_fault c.type_spec.new.names c.from_residual-in_err-type_spec.result c.in_err-type_spec.field-0.0 (walked file k (o ++ t ++ l))
    (told_fault c.from_residual-in_err-type_spec.result c.in_err-type_spec.field-0.0 c.from_residual-in_err-type_spec.ensures.1)
    (right_stop file k (o ++ t) l c.in_err-type_spec.field-0.0
    (later_stop file k k o t c.in_err-type_spec.field-0.0 c.in_ok-optional_attributes.ensures
    (subst (λ b. is_memory c.in_err-type_spec.field-0.0 ≡ false → walked file k (ts b) ≡ Err c.in_err-type_spec.field-0.0) c.is_pointer-behind_pointers.ensures c.in_err-type_spec.ensures)))

pub returns-clause-right : goal.returns-clause-right
returns-clause-right c =
    let file = c.args.file in
    let k = c.args.names.now in
    let before = listed c.args.list.now in
    let o : List Step = steps.optional_attribute_steps (option_map seen.seen_attributes c.args.parameter.now.attributes) in
    let ts = λ (b : Bool). steps.type_steps b (seen.seen_type c.args.parameter.now.of) in
    let pointer = steps.is_pointer (seen.seen_declarator c.args.parameter.now.declarator) in
    let t : List Step = ts pointer in
    let l : List Step = steps.listed_steps before (seen.seen_declarator c.args.parameter.now.declarator) in
    right_on file k c.type_spec.new.names c.type_spec.new.names (o ++ t) l c.listed_declarator.result
    (both_on file k k c.type_spec.new.names o t c.in_ok-optional_attributes.ensures
    (subst (λ b. walked file k (ts b) ≡ Ok c.type_spec.new.names) c.is_pointer-behind_pointers.ensures c.in_ok-type_spec.ensures)) c.listed_declarator.ensures.told
