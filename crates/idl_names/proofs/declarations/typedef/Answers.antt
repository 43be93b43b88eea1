use Rattle.std.proofs.Common.{◌++◌, [], ◌∷◌, List}
use Rattle.idl_grammar.specs.Seen as seen
use Rattle.idl_scope.specs.Known.{walked}
use Rattle.idl_scope.specs.Steps.{Step, Declare, Know}
use Rattle.idl_scope.specs.Steps as steps
use Rattle.idl_scope.specs.declared.meaning.Meaning.TheVariants as meaning
use Rattle.idl_names.proofs.Walked.{both_on, later_stop, right_stop, right_on, at_fault, told_fault}
use Rattle.idl_names.proofs.declarations.typedef.Goals as goal

pub returns-in_err-dimensions : goal.returns-in_err-dimensions
returns-in_err-dimensions c =
    let file = c.args.file in
    let k = c.args.names.now in
    let k1 = c.declare.new.self in
    let a : List Step = Declare c.args.declarator.now.name ∷ [] in
    let b : List Step = steps.dimension_steps (seen.seen_declarator c.args.declarator.now) in
    let m : List Step = Know c.args.declarator.now.name meaning.Type ∷ [] in
    at_fault k1 c.from_residual-in_err-dimensions.result c.in_err-dimensions.field-0.0 (walked file k (a ++ b ++ m))
    (told_fault c.from_residual-in_err-dimensions.result c.in_err-dimensions.field-0.0 c.from_residual-in_err-dimensions.ensures.1)
    (right_stop file k (a ++ b) m c.in_err-dimensions.field-0.0
    (later_stop file k k1 a b c.in_err-dimensions.field-0.0 c.in_ok-declare.ensures c.in_err-dimensions.ensures))

pub returns : goal.returns
returns c =
    let file = c.args.file in
    let k = c.args.names.now in
    let k1 = c.declare.new.self in
    let a : List Step = Declare c.args.declarator.now.name ∷ [] in
    let b : List Step = steps.dimension_steps (seen.seen_declarator c.args.declarator.now) in
    let m : List Step = Know c.args.declarator.now.name meaning.Type ∷ [] in
    right_on file k k1 c.know.new.self (a ++ b) m c.know.result (both_on file k k1 k1 a b c.in_ok-declare.ensures c.in_ok-dimensions.ensures) c.know.ensures
