use Rattle.std.proofs.Common.{◌≡◌, refl, Result}
use Rattle.idl_grammar.specs.ReadPhrases.{Fault}
use Rattle.idl_grammar.specs.Answers.{file_answer}
use Rattle.idl_grammar.specs.Tree as tree
use Rattle.idl_parser.proofs.Answered.{refused_within, told_tree, told_fault}
use Rattle.idl_parser.proofs.parsing.answer.Goals as goal

pub fault_of-requires-clause-within : goal.fault_of-requires-clause-within
fault_of-requires-clause-within c = refused_within c.args.fuel c.args.nesting c.args.parser.now c.in-Err.refusal c.requires.enough c.requires.fueled c.in-Err.ensures

pub returns-in-Ok : goal.returns-in-Ok
returns-in-Ok c =
    let P : Result tree.Tree Fault → Type 0 = λ a. file_answer c.args.fuel c.args.nesting c.args.parser.now ≡ a in
    told_tree P c.args.fuel c.args.nesting c.args.parser.now c.in-Ok.tree c.in-Ok.ensures refl

pub returns-in-Err : goal.returns-in-Err
returns-in-Err c =
    let P : Result tree.Tree Fault → Type 0 = λ a. file_answer c.args.fuel c.args.nesting c.args.parser.now ≡ a in
    told_fault P c.args.fuel c.args.nesting c.args.parser.now c.in-Err.refusal c.fault_of.result c.in-Err.ensures c.fault_of.ensures refl
