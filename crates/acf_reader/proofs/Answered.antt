-- From what is read of a whole text to what is answered.
use Rattle.std.proofs.Common.{◌≡◌, ℕ, ◌≤◌, Bool, true, false, cond, eqb, [], length, sym, subst, arith, Result, Ok, Err}
use Rattle.idl_grammar.specs.declared.refusal.Refusal.{Refusal}
use Rattle.idl_grammar.specs.declared.refusal.Refusal.TheVariants as refusal
use Rattle.idl_grammar.specs.Text.{Text, Ban}
use Rattle.idl_grammar.specs.ReadPhrases.{Fault, Syntax, Passes, Read}
use Rattle.idl_grammar.specs.Gives.{Fails}
use Rattle.idl_grammar.specs.Answers.{whole_read, is_banned, named}
use Rattle.idl_grammar.proofs.Exact.{Exact, front}
use Rattle.idl_grammar.proofs.Sequences.{stops}
use Rattle.idl_grammar.specs.declared.fault.SyntaxFault.{SyntaxFault}
use Rattle.idl_grammar.specs.declared.fault.SyntaxFault.TheVariants as errors
use Rattle.idl_tokens.specs.Refused.{IsWithin, IsNamed}
use Rattle.acf_reader.specs.declared.tree.Acf.{Acf}
use Rattle.acf_reader.specs.Grammar as tree
use Rattle.acf_reader.specs.Grammar.{acf}
use Rattle.acf_reader.specs.Reading.{acf_read}
use Rattle.acf_reader.specs.Seen.{seen_acf}
use Rattle.acf_reader.specs.Answers.{acf_answer}
use Rattle.acf_reader.specs.Told.{Told}
use Rattle.acf_reader.proofs.AcfExact.{acf_exact}

-- ## a refusal is within the text

fault_within : (f : Fault) (n : ℕ) → front f ≤ n → (e : Refusal) → Fails {Y = tree.Acf} e (Err f) → IsWithin e n
fault_within f n h refusal.Memory x = tt
fault_within (Syntax j) n h (refusal.Syntax k) x = let e : j ≡ k = cc in subst (λ (m : ℕ). m ≤ n) e h
fault_within (Passes rule j) n h (refusal.Syntax k) x = absurd (cc)
fault_within (Syntax j) n h (refusal.Deep k) x = absurd (cc)
fault_within (Passes rule j) n h (refusal.Deep k) x = let e : j ≡ k = cc in omega (arith, h, e)
fault_within (Syntax j) n h (refusal.Banned k) x = absurd (cc)
fault_within (Passes rule j) n h (refusal.Banned k) x = let e : j ≡ k = cc in omega (arith, h, e)

no_fault : (a : tree.Acf) (n : ℕ) (e : Refusal) → Fails e (Ok a) → IsWithin e n
no_fault a n refusal.Memory x = tt
no_fault a n (refusal.Syntax k) x = absurd (cc)
no_fault a n (refusal.Deep k) x = absurd (cc)
no_fault a n (refusal.Banned k) x = absurd (cc)

read_within : (t : Text) (r : Read tree.Acf) → Exact acf (stops []) t 0 r → (e : Refusal) → Fails e (whole_read r t) → IsWithin e (length t)
read_within t (Err f) x e h = fault_within f (length t) x.within e h
read_within t (Ok a) x e h = by_case (eqb a.1 (length t)) h where
  by_case : (b : Bool) → Fails e (cond b (Ok a.0) (Err (Syntax a.1))) → IsWithin e (length t)
  by_case true g = no_fault a.0 (length t) e g
  by_case false g = fault_within (Syntax a.1) (length t) x.within e g

pub refused_within : (t : Text) (e : Refusal) → Fails e (whole_read (acf_read t 0) t) → IsWithin e (length t)
refused_within t e h = read_within t (acf_read t 0) (acf_exact t 0 (omega arith)) e h

-- ## what is answered

module _ (P : Result tree.Acf Fault → Type 0) where
  pub told_tree : (t : Text) (x : Acf) → whole_read (acf_read t 0) t ≡ Ok (seen_acf x) → P (acf_answer t) → Told P (Ok x)
  unfolding acf_answer
  told_tree t x h p = subst (λ (v : Result tree.Acf Fault). P (named t v)) h p

  named_syntax : (t : Text) (k : ℕ) (f : SyntaxFault) (b : Bool) → f ≡ cond b (errors.Banned k) (errors.Syntax k) → P (Err (cond b (Passes Ban k) (Syntax k))) → Told P (Err f)
  named_syntax t k f true e p = subst (λ (g : SyntaxFault). Told P (Err g)) (sym e) p
  named_syntax t k f false e p = subst (λ (g : SyntaxFault). Told P (Err g)) (sym e) p

  told_named : (t : Text) (r : Result tree.Acf Fault) (e : Refusal) (f : SyntaxFault) → Fails e r → IsNamed t e f → P (named t r) → Told P (Err f)
  told_named t r refusal.Memory f h is p = subst (λ (g : SyntaxFault). Told P (Err g)) (sym is) tt
  told_named t r (refusal.Syntax k) f h is p = named_syntax t k f (is_banned t k) is (subst (λ (v : Result tree.Acf Fault). P (named t v)) h p)
  told_named t r (refusal.Deep k) f h is p = subst (λ (g : SyntaxFault). Told P (Err g)) (sym is) (subst (λ (v : Result tree.Acf Fault). P (named t v)) h p)
  told_named t r (refusal.Banned k) f h is p = subst (λ (g : SyntaxFault). Told P (Err g)) (sym is) (subst (λ (v : Result tree.Acf Fault). P (named t v)) h p)

  pub told_fault : (t : Text) (e : Refusal) (f : SyntaxFault) → Fails e (whole_read (acf_read t 0) t) → IsNamed t e f → P (acf_answer t) → Told P (Err f)
  unfolding acf_answer
  told_fault t e f h is p = told_named t (whole_read (acf_read t 0) t) e f h is p

-- one fact of the answer for another
pub told_for : (P Q : Result tree.Acf Fault → Type 0) → ((v : Result tree.Acf Fault) → P v → Q v) → (r : Result Acf SyntaxFault) → Told P r → Told Q r
told_for P Q f (Ok x) h = f _ h
told_for P Q f (Err errors.Memory) h = tt
told_for P Q f (Err (errors.Syntax k)) h = f _ h
told_for P Q f (Err (errors.Deep k)) h = f _ h
told_for P Q f (Err (errors.Banned k)) h = f _ h
