-- The token of a fault of an attribute configuration file is one of the text, or its end.
use Rattle.std.proofs.Common.{◌≡◌, ℕ, ◌+◌, ◌<◌, ◌≤◌, true, false, Bool, cond, length, refl, sym, subst, arith, Result, Ok, Err}
use Rattle.std.proofs.lemmas.List.{length-map}
use Rattle.idl_grammar.specs.Text.{Depth, Ban}
use Rattle.idl_grammar.specs.ReadPhrases.{Fault, Syntax, Passes}
use Rattle.idl_grammar.specs.Answers.{whole_read, is_banned, named_fault, named}
use Rattle.idl_grammar.proofs.Exact.{front}
use Rattle.idl_grammar.proofs.Within.{mark_within}
use Rattle.idl_lexer.specs.Verdict.{Lexed}
use Rattle.idl_grammar.specs.Symbols as symbol
use Rattle.idl_grammar.specs.declared.fault.SyntaxFault.{SyntaxFault}
use Rattle.idl_grammar.specs.declared.fault.SyntaxFault.TheVariants as syntax
use Rattle.acf_reader.specs.Grammar.{Acf, acf}
use Rattle.acf_reader.specs.Symbols.{lexemes}
use Rattle.acf_reader.specs.Reading.{acf_read}
use Rattle.acf_reader.specs.Answers.{IsAnswer, acf_answer}
use Rattle.acf_reader.specs.Told.{Told}
use Rattle.acf_reader.proofs.AcfExact.{acf_exact}
use Rattle.acf_reader.proofs.AcfLaws.{acf_answered_alone, lexemes_real}
use Rattle.idl_names.specs.Loads.{IsOfText}
use Rattle.idl_names.proofs.Loads.{same_fault, clash_results, fault_front}

module _ (l : Lexed) where
  token_count : length (lexemes l) ≡ length l.tokens
  token_count = simp length-map refl

  -- a word that is banned anywhere is in the text
  banned_within : (k : ℕ) → is_banned (lexemes l) k ≡ true → k < length (lexemes l)
  unfolding is_banned
  banned_within k h = mark_within (lexemes l) k symbol.Banned refl h

  named_within : (g : Fault) → front g ≤ length (lexemes l) → front (named_fault (lexemes l) g) ≤ length (lexemes l)
  named_within (Syntax k) h = by_case (is_banned (lexemes l) k) refl where
    by_case : (b : Bool) → is_banned (lexemes l) k ≡ b → front (cond b (Passes Ban k) (Syntax k)) ≤ length (lexemes l)
    by_case true e = let p = banned_within k e in omega (arith, p)
    by_case false e = h
  named_within (Passes rule k) h = h

  named_front : (r : Result Acf Fault) → ((g : Fault) → r ≡ Err g → front g ≤ length (lexemes l)) → (f : Fault) → named (lexemes l) r ≡ Err f
      → front f ≤ length (lexemes l)
  named_front (Ok a) h f e = clash_results a f e
  named_front (Err g) h f e =
      subst (λ (k : Fault). front k ≤ length (lexemes l)) (same_fault (named_fault (lexemes l) g) f e) (named_within g (h g refl))

  answer_front : (f : Fault) → IsAnswer (lexemes l) (Err f) → front f ≤ length l.tokens
  unfolding acf_answer
  answer_front f h =
      let t = lexemes l in
      let e = acf_answered_alone t (lexemes_real l) (Err f) h in
      subst (λ (n : ℕ). front f ≤ n) token_count
      (named_front (whole_read (acf_read t 0) t) (fault_front acf t (acf_read t 0) (acf_exact t 0 (omega arith))) f (sym e))

  pub acf_fault_within : (f : SyntaxFault) → Told (λ a. IsAnswer (lexemes l) a) (Err f) → IsOfText l f
  acf_fault_within syntax.Memory h = tt
  acf_fault_within (syntax.Syntax k) h = answer_front (Syntax k) h
  acf_fault_within (syntax.Deep k) h = let p : k + 1 ≤ length l.tokens = answer_front (Passes Depth k) h in omega (arith, p)
  acf_fault_within (syntax.Banned k) h = let p : k + 1 ≤ length l.tokens = answer_front (Passes Ban k) h in omega (arith, p)
