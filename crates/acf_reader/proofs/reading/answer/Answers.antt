use Rattle.std.proofs.Common.{◌≡◌, refl, Result}
use Rattle.idl_grammar.specs.ReadPhrases.{Fault}
use Rattle.acf_reader.specs.Answers.{acf_answer}
use Rattle.acf_reader.specs.Grammar as tree
use Rattle.acf_reader.proofs.Answered.{refused_within, told_tree, told_fault}
use Rattle.acf_reader.proofs.reading.answer.Goals as goal

pub fault_of-requires-clause-within : goal.fault_of-requires-clause-within
fault_of-requires-clause-within c = refused_within c.args.parser.now c.in-Err.refusal c.in-Err.ensures

pub returns-in-Ok : goal.returns-in-Ok
returns-in-Ok c =
    let P : Result tree.Acf Fault → Type 0 = λ a. acf_answer c.args.parser.now ≡ a in
    told_tree P c.args.parser.now c.in-Ok.tree c.in-Ok.ensures refl

pub returns-in-Err : goal.returns-in-Err
returns-in-Err c =
    let P : Result tree.Acf Fault → Type 0 = λ a. acf_answer c.args.parser.now ≡ a in
    told_fault P c.args.parser.now c.in-Err.refusal c.fault_of.result c.in-Err.ensures c.fault_of.ensures refl
