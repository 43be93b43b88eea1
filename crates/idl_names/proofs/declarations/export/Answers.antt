use Rattle.std.proofs.Common.{◌≡◌, ◌∙◌, ◌++◌, sym, ap, subst, Bool, not, ◌&&◌, List, map, option_map, Ok, Err, false}
use Rattle.std.specs.List.{flat_map, list_all}
use Rattle.idl_grammar.specs.Seen as seen
use Rattle.idl_scope.specs.Known.{walked}
use Rattle.idl_scope.specs.Kept.{is_memory, IsRight}
use Rattle.idl_scope.specs.Steps.{Step, Declare, Know}
use Rattle.idl_scope.specs.Steps as steps
use Rattle.idl_names.proofs.Walked.{both_on, later_stop, right_stop, right_on, at_fault, told_fault}
use Rattle.idl_grammar.specs.declared.files.Export.{Export}
use Rattle.idl_grammar.specs.declared.declarators.Declarator.{Declarator}
use Rattle.idl_names.proofs.declarations.export.Goals as goal

pub returns-in_err-optional_attributes-in-Typedef : goal.returns-in_err-optional_attributes-in-Typedef
returns-in_err-optional_attributes-in-Typedef c =
    let file = c.args.file in
    let k = c.args.names.now in
    let o : List Step = steps.optional_attribute_steps (option_map seen.seen_attributes c.in-Typedef.attributes) in
    let ts = λ (b : Bool). steps.type_steps b (seen.seen_type c.in-Typedef.of) in
    let u : List Step = ts (not c.in-Typedef.pipe && list_all steps.is_pointer (map seen.seen_declarator c.in-Typedef.declarators.items)) in
    let d : List Step = flat_map steps.typedef_steps (map seen.seen_declarator c.in-Typedef.declarators.items) in
    subst (λ (x : Export). IsRight k c.from_residual.result (walked file k (steps.export_steps c.args.is_main (seen.seen_export x)))) (sym c.in-Typedef.is)
    (at_fault k c.from_residual.result c.in_err-optional_attributes-in-Typedef.field-0.0 (walked file k (o ++ u ++ d))
    (told_fault c.from_residual.result c.in_err-optional_attributes-in-Typedef.field-0.0 c.from_residual.ensures.1)
    (right_stop file k (o ++ u) d c.in_err-optional_attributes-in-Typedef.field-0.0
    (right_stop file k o u c.in_err-optional_attributes-in-Typedef.field-0.0 c.in_err-optional_attributes-in-Typedef.ensures)))

pub returns-in_err-type_spec-in-Typedef : goal.returns-in_err-type_spec-in-Typedef
returns-in_err-type_spec-in-Typedef c =
    let file = c.args.file in
    let k = c.args.names.now in
    let o : List Step = steps.optional_attribute_steps (option_map seen.seen_attributes c.in-Typedef.attributes) in
    let ts = λ (b : Bool). steps.type_steps b (seen.seen_type c.in-Typedef.of) in
    let u : List Step = ts (not c.in-Typedef.pipe && list_all steps.is_pointer (map seen.seen_declarator c.in-Typedef.declarators.items)) in
    let d : List Step = flat_map steps.typedef_steps (map seen.seen_declarator c.in-Typedef.declarators.items) in
    let bp : c.is_behind_pointers-behind_pointers.result ≡ (not c.in-Typedef.pipe && list_all steps.is_pointer (map seen.seen_declarator c.in-Typedef.declarators.items)) =
    c.is_behind_pointers-behind_pointers.ensures ∙ ap (λ (xs : List Declarator). not c.in-Typedef.pipe && list_all steps.is_pointer (map seen.seen_declarator xs)) c.as_slice.ensures.value in
    subst (λ (x : Export). IsRight c.type_spec.new.names c.from_residual-in_err-type_spec-in-Typedef.result (walked file k (steps.export_steps c.args.is_main (seen.seen_export x))))
    (sym c.in-Typedef.is)
    (at_fault c.type_spec.new.names c.from_residual-in_err-type_spec-in-Typedef.result c.in_err-type_spec-in-Typedef.field-0.0 (walked file k (o ++ u ++ d))
    (told_fault c.from_residual-in_err-type_spec-in-Typedef.result c.in_err-type_spec-in-Typedef.field-0.0 c.from_residual-in_err-type_spec-in-Typedef.ensures.1)
    (right_stop file k (o ++ u) d c.in_err-type_spec-in-Typedef.field-0.0
    (later_stop file k k o u c.in_err-type_spec-in-Typedef.field-0.0 c.in_ok-optional_attributes-in-Typedef.ensures
    (subst (λ b. is_memory c.in_err-type_spec-in-Typedef.field-0.0 ≡ false → walked file k (ts b) ≡ Err c.in_err-type_spec-in-Typedef.field-0.0) bp c.in_err-type_spec-in-Typedef.ensures))))

pub returns-in_ok-type_spec-in-Typedef : goal.returns-in_ok-type_spec-in-Typedef
returns-in_ok-type_spec-in-Typedef c =
    let file = c.args.file in
    let k = c.args.names.now in
    let o : List Step = steps.optional_attribute_steps (option_map seen.seen_attributes c.in-Typedef.attributes) in
    let ts = λ (b : Bool). steps.type_steps b (seen.seen_type c.in-Typedef.of) in
    let u : List Step = ts (not c.in-Typedef.pipe && list_all steps.is_pointer (map seen.seen_declarator c.in-Typedef.declarators.items)) in
    let d : List Step = flat_map steps.typedef_steps (map seen.seen_declarator c.in-Typedef.declarators.items) in
    let bp : c.is_behind_pointers-behind_pointers.result ≡ (not c.in-Typedef.pipe && list_all steps.is_pointer (map seen.seen_declarator c.in-Typedef.declarators.items)) =
    c.is_behind_pointers-behind_pointers.ensures ∙ ap (λ (xs : List Declarator). not c.in-Typedef.pipe && list_all steps.is_pointer (map seen.seen_declarator xs)) c.as_slice.ensures.value in
    subst (λ (x : Export). IsRight c.typedefs.new.names c.typedefs.result (walked file k (steps.export_steps c.args.is_main (seen.seen_export x)))) (sym c.in-Typedef.is)
    (right_on file k c.type_spec.new.names c.typedefs.new.names (o ++ u) d c.typedefs.result
    (both_on file k k c.type_spec.new.names o u c.in_ok-optional_attributes-in-Typedef.ensures
    (subst (λ b. walked file k (ts b) ≡ Ok c.type_spec.new.names) bp c.in_ok-type_spec-in-Typedef.ensures)) c.typedefs.ensures)

pub returns-in_err-optional_attributes-in-Tagged : goal.returns-in_err-optional_attributes-in-Tagged
returns-in_err-optional_attributes-in-Tagged c =
    let file = c.args.file in
    let k = c.args.names.now in
    let o : List Step = steps.optional_attribute_steps (option_map seen.seen_attributes c.in-Tagged.attributes) in
    let u : List Step = steps.type_steps false (seen.seen_type c.in-Tagged.of) in
    subst (λ (x : Export). IsRight k c.from_residual-in_err-optional_attributes-in-Tagged.result (walked file k (steps.export_steps c.args.is_main (seen.seen_export x)))) (sym c.in-Tagged.is)
    (at_fault k c.from_residual-in_err-optional_attributes-in-Tagged.result c.in_err-optional_attributes-in-Tagged.field-0.0 (walked file k (o ++ u))
    (told_fault c.from_residual-in_err-optional_attributes-in-Tagged.result c.in_err-optional_attributes-in-Tagged.field-0.0 c.from_residual-in_err-optional_attributes-in-Tagged.ensures.1)
    (right_stop file k o u c.in_err-optional_attributes-in-Tagged.field-0.0 c.in_err-optional_attributes-in-Tagged.ensures))

pub returns-in_ok-optional_attributes-in-Tagged : goal.returns-in_ok-optional_attributes-in-Tagged
returns-in_ok-optional_attributes-in-Tagged c =
    let file = c.args.file in
    let k = c.args.names.now in
    let o : List Step = steps.optional_attribute_steps (option_map seen.seen_attributes c.in-Tagged.attributes) in
    let u : List Step = steps.type_steps false (seen.seen_type c.in-Tagged.of) in
    subst (λ (x : Export). IsRight c.type_spec-in-Tagged.new.names c.type_spec-in-Tagged.result (walked file k (steps.export_steps c.args.is_main (seen.seen_export x)))) (sym c.in-Tagged.is)
    (right_on file k k c.type_spec-in-Tagged.new.names o u c.type_spec-in-Tagged.result c.in_ok-optional_attributes-in-Tagged.ensures c.type_spec-in-Tagged.ensures)
