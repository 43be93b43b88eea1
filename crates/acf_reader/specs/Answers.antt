-- What is answered on the tokens of an attribute configuration file.
use Rattle.std.specs.Prelude.{Result}
use Rattle.idl_grammar.specs.Text.{Text}
use Rattle.idl_grammar.specs.ReadPhrases.{Fault}
use Rattle.idl_grammar.specs.Answers.{whole_read, Answers, named}
use Rattle.acf_reader.specs.Grammar.{Acf, acf}
use Rattle.acf_reader.specs.Reading.{acf_read}

-- The tree of the text, or the first token with which no file of the grammar goes on. A word that is banned anywhere is named as
-- such there.
abbrev pub IsAnswer : Text → Result Acf Fault → Type 0
IsAnswer t answer = Answers acf t answer

-- the same, as it is computed
unfoldable pub acf_answer : Text → Result Acf Fault
acf_answer t = named t (whole_read (acf_read t 0) t)
