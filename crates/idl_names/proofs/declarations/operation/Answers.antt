use Rattle.std.proofs.Common.{◌++◌, [], ◌∷◌, List, option_map, false}
use Rattle.idl_grammar.specs.Seen as seen
use Rattle.idl_scope.specs.Known.{walked}
use Rattle.idl_scope.specs.Steps.{Step, Declare, Know}
use Rattle.idl_scope.specs.Steps as steps
use Rattle.idl_scope.specs.declared.meaning.Meaning.TheVariants as meaning
use Rattle.idl_names.proofs.Walked.{both_on, later_stop, right_stop, right_on, at_fault, told_fault}
use Rattle.idl_names.proofs.declarations.operation.Goals as goal

pub returns-in_err-optional_attributes : goal.returns-in_err-optional_attributes
returns-in_err-optional_attributes c =
    let file = c.args.file in
    let k = c.args.names.now in
    let o : List Step = steps.optional_attribute_steps (option_map seen.seen_attributes c.args.list.now) in
    let t : List Step = steps.type_steps false (seen.seen_type c.args.of.now) in
    let a : List Step = Declare c.args.name.now ∷ [] in
    let p : List Step = steps.parameter_steps [] (steps.parameters_of (seen.seen_parameters c.args.taken.now)) in
    let d : List Step = Declare c.args.name.now ∷ p in
    let m : List Step = Know c.args.name.now meaning.Other ∷ [] in
    at_fault k c.from_residual.result c.in_err-optional_attributes.field-0.0 (walked file k (o ++ t ++ d ++ m))
    (told_fault c.from_residual.result c.in_err-optional_attributes.field-0.0 c.from_residual.ensures.1)
    (right_stop file k (o ++ t ++ d) m c.in_err-optional_attributes.field-0.0
    (right_stop file k (o ++ t) d c.in_err-optional_attributes.field-0.0
    (right_stop file k o t c.in_err-optional_attributes.field-0.0 c.in_err-optional_attributes.ensures)))

pub returns-in_err-type_spec : goal.returns-in_err-type_spec
returns-in_err-type_spec c =
    let file = c.args.file in
    let k = c.args.names.now in
    let k1 = c.type_spec.new.names in
    let o : List Step = steps.optional_attribute_steps (option_map seen.seen_attributes c.args.list.now) in
    let t : List Step = steps.type_steps false (seen.seen_type c.args.of.now) in
    let a : List Step = Declare c.args.name.now ∷ [] in
    let p : List Step = steps.parameter_steps [] (steps.parameters_of (seen.seen_parameters c.args.taken.now)) in
    let d : List Step = Declare c.args.name.now ∷ p in
    let m : List Step = Know c.args.name.now meaning.Other ∷ [] in
    at_fault k1 c.from_residual-in_err-type_spec.result c.in_err-type_spec.field-0.0 (walked file k (o ++ t ++ d ++ m))
    (told_fault c.from_residual-in_err-type_spec.result c.in_err-type_spec.field-0.0 c.from_residual-in_err-type_spec.ensures.1)
    (right_stop file k (o ++ t ++ d) m c.in_err-type_spec.field-0.0
    (right_stop file k (o ++ t) d c.in_err-type_spec.field-0.0
    (later_stop file k k o t c.in_err-type_spec.field-0.0 c.in_ok-optional_attributes.ensures c.in_err-type_spec.ensures)))

pub returns-in_err-declare : goal.returns-in_err-declare
returns-in_err-declare c =
    let file = c.args.file in
    let k = c.args.names.now in
    let k1 = c.type_spec.new.names in
    let o : List Step = steps.optional_attribute_steps (option_map seen.seen_attributes c.args.list.now) in
    let t : List Step = steps.type_steps false (seen.seen_type c.args.of.now) in
    let a : List Step = Declare c.args.name.now ∷ [] in
    let p : List Step = steps.parameter_steps [] (steps.parameters_of (seen.seen_parameters c.args.taken.now)) in
    let d : List Step = Declare c.args.name.now ∷ p in
    let m : List Step = Know c.args.name.now meaning.Other ∷ [] in
    at_fault c.declare.new.self c.from_residual-in_err-declare.result c.in_err-declare.field-0.0 (walked file k (o ++ t ++ d ++ m))
    (told_fault c.from_residual-in_err-declare.result c.in_err-declare.field-0.0 c.from_residual-in_err-declare.ensures.1)
    (right_stop file k (o ++ t ++ d) m c.in_err-declare.field-0.0
    (later_stop file k k1 (o ++ t) d c.in_err-declare.field-0.0
    (both_on file k k k1 o t c.in_ok-optional_attributes.ensures c.in_ok-type_spec.ensures)
    (right_stop file k1 a p c.in_err-declare.field-0.0 c.in_err-declare.ensures)))

pub returns-in_err-parameters : goal.returns-in_err-parameters
returns-in_err-parameters c =
    let file = c.args.file in
    let k = c.args.names.now in
    let k1 = c.type_spec.new.names in
    let o : List Step = steps.optional_attribute_steps (option_map seen.seen_attributes c.args.list.now) in
    let t : List Step = steps.type_steps false (seen.seen_type c.args.of.now) in
    let a : List Step = Declare c.args.name.now ∷ [] in
    let p : List Step = steps.parameter_steps [] (steps.parameters_of (seen.seen_parameters c.args.taken.now)) in
    let d : List Step = Declare c.args.name.now ∷ p in
    let m : List Step = Know c.args.name.now meaning.Other ∷ [] in
    at_fault c.parameters.new.names c.from_residual-in_err-parameters.result c.in_err-parameters.field-0.0 (walked file k (o ++ t ++ d ++ m))
    (told_fault c.from_residual-in_err-parameters.result c.in_err-parameters.field-0.0 c.from_residual-in_err-parameters.ensures.1)
    (right_stop file k (o ++ t ++ d) m c.in_err-parameters.field-0.0
    (later_stop file k k1 (o ++ t) d c.in_err-parameters.field-0.0
    (both_on file k k k1 o t c.in_ok-optional_attributes.ensures c.in_ok-type_spec.ensures)
    (later_stop file k1 c.declare.new.self a p c.in_err-parameters.field-0.0 c.in_ok-declare.ensures c.in_err-parameters.ensures)))

pub returns : goal.returns
returns c =
    let file = c.args.file in
    let k = c.args.names.now in
    let k1 = c.type_spec.new.names in
    let o : List Step = steps.optional_attribute_steps (option_map seen.seen_attributes c.args.list.now) in
    let t : List Step = steps.type_steps false (seen.seen_type c.args.of.now) in
    let a : List Step = Declare c.args.name.now ∷ [] in
    let p : List Step = steps.parameter_steps [] (steps.parameters_of (seen.seen_parameters c.args.taken.now)) in
    let d : List Step = Declare c.args.name.now ∷ p in
    let m : List Step = Know c.args.name.now meaning.Other ∷ [] in
    right_on file k c.parameters.new.names c.know.new.self (o ++ t ++ d) m c.know.result
    (both_on file k k1 c.parameters.new.names (o ++ t) d
    (both_on file k k k1 o t c.in_ok-optional_attributes.ensures c.in_ok-type_spec.ensures)
    (both_on file k1 c.declare.new.self c.parameters.new.names a p c.in_ok-declare.ensures c.in_ok-parameters.ensures)) c.know.ensures
