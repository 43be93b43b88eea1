-- Each text is a file of IDL, or has a first fault.
use Rattle.std.proofs.Common.{◌≤◌, ℕ, List, refl, arith, Result, Ok, Err}
use Rattle.idl_grammar.specs.declared.language.Language.{Language}
use Rattle.idl_grammar.specs.Text.{Text, Depth, Ban, lexemes}
use Rattle.idl_grammar.specs.ReadPhrases.{Fault, Syntax, Passes}
use Rattle.idl_grammar.specs.Gives.{IsText}
use Rattle.idl_lexer.specs.declared.tokens.Token.{Token}
use Rattle.idl_lexer.specs.Verdict.{Lexed, place_of, AreTokens, HasVerdict, Verdict, IsVerdict, Cut, Refused}
use Rattle.idl_lexer.proofs.Answered.{each_text}
use Rattle.idl_grammar.specs.Grammar as grammar
use Rattle.idl_grammar.specs.Tree.{Tree}
use Rattle.idl_grammar.specs.Answers.{Answers, file_answer}
use Rattle.idl_grammar.proofs.FileLaws.{file_answered}
use Rattle.idl_grammar.proofs.RealTokens.{lexemes_real}
use Rattle.idl_grammar.specs.declared.fault.SyntaxFault.TheVariants as syntax
use Rattle.idl_names.specs.Walk.{IsRead}
use Rattle.command_compile.specs.Read.{HasAnswer, IsReadAs, AsFile, AsNoFile, AsUncut}

pub each_file : (t : Text) → IsText t → HasAnswer grammar.file t
each_file t real = record { answer = file_answer 64 129 t; right = file_answered 64 129 (omega arith) (omega arith) t real }

module _ (language : Language) (text : List ℕ) (tokens : List Token) (are : AreTokens text tokens) where
  abbrev lexed : Lexed
  lexed = record { text = text; tokens = tokens }

  read_as : (answer : Result Tree Fault) → Answers grammar.file (lexemes language lexed) answer → IsReadAs language text
  read_as (Ok t) h = AsFile t (record { lexed = lexed; read = record { text_is = refl; tokens = are; answered = h } })
  read_as (Err (Syntax k)) h = AsNoFile (place_of lexed k) (syntax.Syntax k) (record {
    lexed = lexed;
    told = Syntax k;
    token = k;
    is_told = (refl, refl);
    read = record { text_is = refl; tokens = are; answered = h };
    octet = refl;
  })
  read_as (Err (Passes Depth k)) h = AsNoFile (place_of lexed k) (syntax.Deep k) (record {
    lexed = lexed;
    told = Passes Depth k;
    token = k;
    is_told = (refl, refl);
    read = record { text_is = refl; tokens = are; answered = h };
    octet = refl;
  })
  read_as (Err (Passes Ban k)) h = AsNoFile (place_of lexed k) (syntax.Banned k) (record {
    lexed = lexed;
    told = Passes Ban k;
    token = k;
    is_told = (refl, refl);
    read = record { text_is = refl; tokens = are; answered = h };
    octet = refl;
  })

  tokens_read : IsReadAs language text
  tokens_read = let a = each_file (lexemes language lexed) (lexemes_real language lexed) in read_as a.answer a.right

by_verdict : (language : Language) (text : List ℕ) (v : Verdict) → IsVerdict text v → IsReadAs language text
by_verdict language text (Cut tokens) is = tokens_read language text tokens is
by_verdict language text (Refused at kind) is = AsUncut at kind is

pub each_read : (language : Language) (text : List ℕ) → IsReadAs language text
each_read language text = let v = each_text text in by_verdict language text v.verdict v.right
