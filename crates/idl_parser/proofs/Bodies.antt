-- What is read after tags and in brackets.
use Rattle.std.proofs.Common.{◌≡◌, ℕ, Bool, true, false, not, List, [], ◌∷◌, cond, refl, ap, ◌∙◌, Ok, Err, Option, Some, None}
use Rattle.idl_grammar.specs.declared.refusal.Refusal.{Refusal}
use Rattle.idl_grammar.specs.Text.{Text, symbol_at, is_in}
use Rattle.idl_grammar.specs.ReadPhrases.{Read, join, and_then, skip, ended, end_with, mark_read, open_read, bracketed_read}
use Rattle.idl_grammar.specs.Gives.{Fails}
use Rattle.idl_grammar.proofs.Fails.{fails_equal, fails_is}
use Rattle.idl_grammar.specs.declared.words.Spelling.{Spelling}
use Rattle.idl_grammar.specs.Expressions.{names}
use Rattle.idl_grammar.specs.Tree.{TypeSpec}
use Rattle.idl_grammar.specs.ReadExpressions.{ident_read}
use Rattle.idl_grammar.specs.Reading.{branch_read, bind_read, tagged_read}

pub then_reads : {A B : Type 0} (r : Read A) (g : A → ℕ → Read B) (a : A) (m : ℕ) (b : B) (n : ℕ) → r ≡ Ok (a, m) → g a m ≡ Ok (b, n) → and_then r g ≡ Ok ((a, b), n)
then_reads {A = A} {B = B} r g a m b n e f = ap (λ (v : Read A). and_then v g) e ∙ ap (λ (v : Read B). join a v) f

pub then_fails : {A B : Type 0} (r : Read A) (g : A → ℕ → Read B) (a : A) (m : ℕ) (x : Refusal) → r ≡ Ok (a, m) → Fails x (g a m) → Fails x (and_then r g)
then_fails {A = A} r g a m x e f = fails_is x (and_then r g) (join a (g a m)) (ap (λ (v : Read A). and_then v g) e) (fails_equal (λ v. join a v) (λ _. refl) x (g a m) f)

pub bracketed_reads : {A : Type 0} (depth o c : ℕ) (t : Text) (item : ℕ → Read A) (i m n p : ℕ) (a : A) → open_read depth o t i ≡ Ok (tt, m) → item m ≡ Ok (a, n) → mark_read c t n ≡ Ok (tt, p)
    → bracketed_read depth o c t item i ≡ Ok (a, p)
bracketed_reads {A = A} depth o c t item i m n p a e f g =
    ap (λ (v : Read (Unit {0})). skip v (λ m. end_with (item m) (λ n. mark_read c t n))) e
    ∙ (ap (λ (v : Read A). end_with v (λ n. mark_read c t n)) f ∙ ap (λ (v : Read (Unit {0})). ended a v) g)

pub branch_first : {A : Type 0} (firsts : List ℕ) (t : Text) (i : ℕ) (r s : Read A) → is_in firsts (symbol_at t i) ≡ true → branch_read firsts t i r s ≡ r
branch_first firsts t i r s h = ap (λ (b : Bool). cond b r s) h

pub branch_second : {A : Type 0} (firsts : List ℕ) (t : Text) (i : ℕ) (r s : Read A) → is_in firsts (symbol_at t i) ≡ false → branch_read firsts t i r s ≡ s
branch_second firsts t i r s h = ap (λ (b : Bool). cond b r s) h

pub tagged_body : (firsts : List ℕ) (t : Text) (alone : Spelling → TypeSpec) (body : Option Spelling → ℕ → Read TypeSpec) (i : ℕ) (tag : Spelling) (m : ℕ)
    → is_in (names false) (symbol_at t i) ≡ true → ident_read false t i ≡ Ok (tag, m) → is_in firsts (symbol_at t m) ≡ true
    → tagged_read firsts t alone body i ≡ body (Some tag) m
tagged_body firsts t alone body i tag m named read begins =
    branch_first (names false) t i (bind_read (ident_read false t i) (λ tag m. branch_read firsts t m (body (Some tag) m) (Ok (alone tag, m)))) (body None i) named
    ∙ (ap (λ (v : Read Spelling). bind_read v (λ tag m. branch_read firsts t m (body (Some tag) m) (Ok (alone tag, m)))) read
    ∙ branch_first firsts t m (body (Some tag) m) (Ok (alone tag, m)) begins)
