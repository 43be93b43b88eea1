-- What is answered on a file is right, and nothing else is.
use Rattle.std.proofs.Common.{◌≡◌, ℕ, ◌≤◌, Bool, true, false, cond, [], refl, sym, ap, arith, ◌∙◌, ◌⊎◌, inl, inr, Result, Ok, Err}
use Rattle.idl_grammar.specs.Text.{Text, Rel, Depth, Ban}
use Rattle.idl_grammar.specs.ReadPhrases.{Fault, Syntax, Passes}
use Rattle.idl_grammar.specs.Answers.{IsSyntax, IsRefused, Judges, whole_read, is_banned, Answers, named, file_answer}
use Rattle.idl_grammar.specs.Gives.{IsText}
use Rattle.idl_grammar.proofs.Exact.{Exact}
use Rattle.idl_grammar.proofs.Judged.{whole_judged, one_verdict}
use Rattle.idl_grammar.proofs.Sequences.{stops}
use Rattle.idl_grammar.specs.Tree.{Tree}
use Rattle.idl_grammar.specs.Grammar.{file}
use Rattle.idl_grammar.specs.Reading.{file_read}
use Rattle.idl_grammar.proofs.FileExact.{file_exact}

module _ {A : Type 0} (p : Rel A) (t : Text) where
  syntax_answered : (k : ℕ) → IsSyntax p t k → (b : Bool) → is_banned t k ≡ b → Answers p t (Err (cond b (Passes Ban k) (Syntax k)))
  syntax_answered k x true h = record { place = inl (x, h) }
  syntax_answered k x false h = (x, h)

  pub answered : (v : Result A Fault) → Judges p t v → Answers p t (named t v)
  answered (Ok a) x = x
  answered (Err (Syntax k)) x = syntax_answered k x (is_banned t k) refl
  answered (Err (Passes Depth k)) x = x
  answered (Err (Passes Ban k)) x = record { place = inr x }

  banned_alone : (k : ℕ) (w : Result A Fault) → ((v : Result A Fault) → Judges p t v → v ≡ w) → (IsSyntax p t k × (is_banned t k ≡ true)) ⊎ IsRefused p t Ban k → Err (Passes Ban k) ≡ named t w
  banned_alone k w only (inl x) =
      sym (ap (λ (b : Bool). Err (cond b (Passes Ban k) (Syntax k))) x.1) ∙ ap (λ (v : Result A Fault). named t v) (only (Err (Syntax k)) x.0)
  banned_alone k w only (inr x) = ap (λ (v : Result A Fault). named t v) (only (Err (Passes Ban k)) x)

  pub answered_alone : (w : Result A Fault) → ((v : Result A Fault) → Judges p t v → v ≡ w) → (v : Result A Fault) → Answers p t v → v ≡ named t w
  answered_alone w only (Ok a) x = ap (λ (v : Result A Fault). named t v) (only (Ok a) x)
  answered_alone w only (Err (Syntax k)) x =
      sym (ap (λ (b : Bool). Err (cond b (Passes Ban k) (Syntax k))) x.1) ∙ ap (λ (v : Result A Fault). named t v) (only (Err (Syntax k)) x.0)
  answered_alone w only (Err (Passes Depth k)) x = ap (λ (v : Result A Fault). named t v) (only (Err (Passes Depth k)) x)
  answered_alone w only (Err (Passes Ban k)) x = banned_alone k w only x.place

module _ (fuel nesting : ℕ) (enough : 129 ≤ nesting) (fueled : 64 ≤ fuel) (t : Text) (real : IsText t) where
  exact : Exact file (stops []) t 0 (file_read fuel nesting t 0)
  exact = file_exact fuel nesting enough fueled t 0 (omega arith)

  pub file_judged : Judges file t (whole_read (file_read fuel nesting t 0) t)
  file_judged = whole_judged file (stops []) (λ x. refl) t real (file_read fuel nesting t 0) exact

  pub file_alone : (v : Result Tree Fault) → Judges file t v → v ≡ whole_read (file_read fuel nesting t 0) t
  file_alone = one_verdict file (stops []) (λ x. refl) t real (file_read fuel nesting t 0) exact

  pub file_answered : Answers file t (file_answer fuel nesting t)
  unfolding file_answer
  file_answered = answered file t (whole_read (file_read fuel nesting t 0) t) file_judged

  pub file_answered_alone : (v : Result Tree Fault) → Answers file t v → v ≡ file_answer fuel nesting t
  unfolding file_answer
  file_answered_alone = answered_alone file t (whole_read (file_read fuel nesting t 0) t) file_alone
