-- What each text is read as, and each list of tokens.
use Rattle.std.specs.Prelude.{ℕ, List, Result}
use Rattle.idl_grammar.specs.declared.language.Language.{Language}
use Rattle.idl_grammar.specs.Text.{Text, Phrase}
use Rattle.idl_grammar.specs.ReadPhrases.{Fault}
use Rattle.idl_lexer.specs.declared.tokens.LexKind.{LexKind}
use Rattle.idl_lexer.specs.Verdict.{IsVerdict, Refused}
use Rattle.idl_grammar.specs.Answers.{Answers}
use Rattle.idl_grammar.specs.Tree.{Tree}
use Rattle.idl_grammar.specs.declared.fault.SyntaxFault.{SyntaxFault}
use Rattle.idl_names.specs.Walk.{IsFile, IsNoFile}

-- Tokens are a tree of a grammar, or have a first fault.
pub record HasAnswer {A : Type 0} (p : A → Phrase) (t : Text) : Type 0 where
  pub answer : Result A Fault
  pub right : Answers p t answer

-- A text is a file of a language, or has a first fault.
pub data IsReadAs (language : Language) (text : List ℕ) : Type 0 where
  AsFile : (t : Tree) → IsFile language text t → IsReadAs language text
  AsNoFile : (at : ℕ) (f : SyntaxFault) → IsNoFile language text at f → IsReadAs language text
  AsUncut : (at : ℕ) (kind : LexKind) → IsVerdict text (Refused at kind) → IsReadAs language text
