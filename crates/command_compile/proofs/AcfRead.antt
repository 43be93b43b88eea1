-- Each text is an attribute configuration file, or has a first fault.
use Rattle.std.proofs.Common.{◌≡◌, ℕ, List, Result, Ok, Err, refl}
use Rattle.idl_grammar.specs.Text.{Depth, Ban}
use Rattle.idl_grammar.specs.ReadPhrases.{Fault, Syntax, Passes}
use Rattle.idl_lexer.specs.declared.tokens.Token.{Token}
use Rattle.idl_lexer.specs.Verdict.{Lexed, place_of, AreTokens, Verdict, IsVerdict, Cut, Refused}
use Rattle.idl_lexer.proofs.Answered.{each_text}
use Rattle.idl_grammar.specs.declared.fault.SyntaxFault.{SyntaxFault}
use Rattle.idl_grammar.specs.declared.fault.SyntaxFault.TheVariants as syntax
use Rattle.idl_names.specs.Walk.{IsSyntaxFault}
use Rattle.acf_reader.specs.Grammar.{Acf}
use Rattle.acf_reader.specs.Symbols.{lexemes}
use Rattle.acf_reader.specs.Answers.{IsAnswer, acf_answer}
use Rattle.acf_reader.proofs.AcfLaws.{acf_answered, lexemes_real}
use Rattle.command_refusals.specs.declared.refusal.IdlReason.{IdlReason}
use Rattle.command_refusals.specs.declared.refusal.IdlReason.TheVariants as reason
use Rattle.command_compile.specs.Idl.{IsAcf, IsNoAcf, word_at, IsAcfFault}

pub data IsAcfReadAs (text : List ℕ) : Type 0 where
  as_acf : (t : Acf) → IsAcf text t → IsAcfReadAs text
  as_fault : (at : ℕ) (why : IdlReason) → IsAcfFault text at why → IsAcfReadAs text

module _ (text : List ℕ) (tokens : List Token) (are : AreTokens text tokens) where
  abbrev lexed : Lexed
  lexed = record { text = text; tokens = tokens }

  no_acf : (f : SyntaxFault) (token : ℕ) (told : Fault) → IsSyntaxFault f token told → IsAnswer (lexemes lexed) (Err told) → IsNoAcf text (place_of lexed token) f
  no_acf f token told is h = record {
    lexed = lexed;
    told = told;
    token = token;
    is_told = is;
    read = record { text_is = refl; tokens = are; answered = h };
    octet = refl;
  }

  read_as : (answer : Result Acf Fault) → IsAnswer (lexemes lexed) answer → IsAcfReadAs text
  read_as (Ok t) h = as_acf t (record { lexed = lexed; read = record { text_is = refl; tokens = are; answered = h } })
  read_as (Err (Syntax k)) h = as_fault (place_of lexed k) reason.Syntax (k, no_acf (syntax.Syntax k) k (Syntax k) (refl, refl) h)
  read_as (Err (Passes Depth k)) h = as_fault (place_of lexed k) reason.Deep (k, no_acf (syntax.Deep k) k (Passes Depth k) (refl, refl) h)
  read_as (Err (Passes Ban k)) h =
      as_fault (place_of lexed k) (reason.Banned (word_at text (place_of lexed k))) ((k, no_acf (syntax.Banned k) k (Passes Ban k) (refl, refl) h), refl)

by_verdict : (text : List ℕ) (v : Verdict) → IsVerdict text v → IsAcfReadAs text
by_verdict text (Cut tokens) is =
    let l : Lexed = record { text = text; tokens = tokens } in read_as text tokens is (acf_answer (lexemes l)) (acf_answered (lexemes l) (lexemes_real l))
by_verdict text (Refused at kind) is = as_fault at (reason.Lexical kind) is

pub each_acf_read : (text : List ℕ) → IsAcfReadAs text
each_acf_read text = let v = each_text text in by_verdict text v.verdict v.right
