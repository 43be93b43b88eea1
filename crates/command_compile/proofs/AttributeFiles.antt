-- Tokens are an attribute file, or have a first fault.
use Rattle.idl_grammar.specs.Text.{Text}
use Rattle.idl_grammar.specs.Gives.{IsText}
use Rattle.acf_reader.specs.Grammar.{acf}
use Rattle.acf_reader.specs.Answers.{acf_answer}
use Rattle.acf_reader.proofs.AcfLaws.{acf_answered}
use Rattle.command_compile.specs.Read.{HasAnswer}

pub each_acf : (t : Text) → IsText t → HasAnswer acf t
each_acf t real = record { answer = acf_answer t; right = acf_answered t real }
