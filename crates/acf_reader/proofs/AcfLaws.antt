-- What is answered on a file is right, and nothing else is.
use Rattle.std.proofs.Common.{◌≡◌, ℕ, false, eqb, List, [], refl, arith, Result}
use Rattle.idl_grammar.specs.Text.{Text}
use Rattle.idl_grammar.specs.ReadPhrases.{Fault}
use Rattle.idl_grammar.specs.Answers.{Judges, whole_read, Answers}
use Rattle.idl_grammar.specs.Gives.{IsText}
use Rattle.idl_grammar.proofs.Exact.{Exact}
use Rattle.idl_grammar.proofs.Judged.{whole_judged, one_verdict}
use Rattle.idl_grammar.proofs.Sequences.{stops}
use Rattle.idl_lexer.specs.declared.tokens.TokenKind.{TokenKind}
use Rattle.idl_lexer.specs.declared.tokens.TokenKind.TheVariants as token
use Rattle.idl_lexer.specs.Verdict.{Lexed}
use Rattle.idl_grammar.specs.Symbols.{marks}
use Rattle.idl_grammar.specs.Symbols as symbol
use Rattle.idl_grammar.proofs.RealTokens.{among_real, all_real}
use Rattle.acf_reader.specs.Symbols.{words, symbol_of, lexeme_of, lexemes}
use Rattle.idl_grammar.proofs.FileLaws.{answered, answered_alone}
use Rattle.acf_reader.specs.Grammar.{Acf, acf}
use Rattle.acf_reader.specs.Reading.{acf_read}
use Rattle.acf_reader.specs.Answers.{acf_answer}
use Rattle.acf_reader.proofs.AcfExact.{acf_exact}

symbol_real : (kind : TokenKind) (octets : List ℕ) → eqb (symbol_of kind octets) 0 ≡ false
unfolding symbol_of words
symbol_real token.Word octets = among_real words symbol.Name octets refl refl
symbol_real token.Uuid octets = refl
symbol_real token.Number octets = refl
symbol_real token.Char octets = refl
symbol_real token.Str octets = refl
symbol_real token.Mark octets = among_real marks symbol.Unknown octets refl refl

-- no token of a text is the end
pub lexemes_real : (lexed : Lexed) → IsText (lexemes lexed)
lexemes_real lexed = all_real lexeme_of (λ text t. symbol_real t.kind _) lexed.text lexed.tokens

module _ (t : Text) (real : IsText t) where
  exact : Exact acf (stops []) t 0 (acf_read t 0)
  exact = acf_exact t 0 (omega arith)

  judged : Judges acf t (whole_read (acf_read t 0) t)
  judged = whole_judged acf (stops []) (λ x. refl) t real (acf_read t 0) exact

  alone : (v : Result Acf Fault) → Judges acf t v → v ≡ whole_read (acf_read t 0) t
  alone = one_verdict acf (stops []) (λ x. refl) t real (acf_read t 0) exact

  pub acf_answered : Answers acf t (acf_answer t)
  unfolding acf_answer
  acf_answered = answered acf t (whole_read (acf_read t 0) t) judged

  pub acf_answered_alone : (v : Result Acf Fault) → Answers acf t v → v ≡ acf_answer t
  unfolding acf_answer
  acf_answered_alone = answered_alone acf t (whole_read (acf_read t 0) t) alone
