-- No phrase holds a word that is banned anywhere.
use Rattle.std.proofs.Common.{◌≡◌, ℕ, ◌+◌, ◌<◌, ◌≤◌, Bool, true, false, List, [], ◌∷◌, refl, ap, arith, ◌∙◌, Option, Some, None, eq-eqb}
use Rattle.std.proofs.Math.Decide.{dec_lt}
use Rattle.std.proofs.lemmas.Bool.{eqb-true}
use Rattle.nd_lemmas.proofs.Booleans.{clash}
use Rattle.idl_grammar.specs.Text.{Lexeme, Text, Phrase, Rel, Rule, symbol_at, is, nothing, never, mark, token, unless, only_if, optional, many, some_of, separated, located, bracketed, ◌▹◌}
use Rattle.idl_grammar.specs.Symbols as symbol
use Rattle.idl_grammar.specs.Grammar.{flag, begins_at}
use Rattle.idl_grammar.specs.Answers.{is_banned}

pub record Clean (p : Phrase) : Type 0 where
  pub clean : (lifted : _) (x : Text) (i j : ℕ) → p lifted x i j → (k : ℕ) → i ≤ k → k < j → is_banned x k ≡ false

-- what a test refuses does not pass it
pub unbanned : (f : ℕ → Bool) → f symbol.Banned ≡ false → (x : Text) (i : ℕ) → f (symbol_at x i) ≡ true → is_banned x i ≡ false
unfolding is_banned
unbanned f other x i h = by_case (is (symbol_at x i) symbol.Banned) refl where
  by_case : (b : Bool) → is (symbol_at x i) symbol.Banned ≡ b → is (symbol_at x i) symbol.Banned ≡ false
  by_case false e = e
  by_case true e = clash (f (symbol_at x i)) h (ap f (eqb-true (symbol_at x i) symbol.Banned e) ∙ other)

pub one_place : (x : Text) (i j k : ℕ) → j ≡ i + 1 → is_banned x i ≡ false → i ≤ k → k < j → is_banned x k ≡ false
one_place x i j k e h from to = let here : k ≡ i = omega arith in ap (λ (n : ℕ). is_banned x n) here ∙ h

pub token_clean : {A : Type 0} (f : ℕ → Bool) → f symbol.Banned ≡ false → (see : Lexeme → A) (a : A) → Clean (token (λ l. f l.symbol) see a)
token_clean f other see a = record { clean = λ lifted x i j ph k from to. one_place x i j k ph.2 (unbanned f other x i ph.0) from to }

pub mark_clean : (s : ℕ) → is symbol.Banned s ≡ false → Clean (mark s)
mark_clean s other = record { clean = λ lifted x i j ph k from to. one_place x i j k ph.1 (unbanned (λ c. is c s) other x i (eq-eqb (symbol_at x i) s ph.0)) from to }

pub nothing_clean : Clean nothing
nothing_clean = record { clean = λ lifted x i j ph k from to. absurd (let e : j ≡ i = ph in omega arith) }

pub never_clean : Clean never
never_clean = record { clean = λ lifted x i j ph k from to. absurd ph }

pub then_clean : {p q : Phrase} → Clean p → Clean q → Clean (p ▹ q)
then_clean c d = record {
  clean = λ lifted x i j ph k from to. elim (dec_lt k ph.0) as (λ _. is_banned x k ≡ false) [
    | yes lt ↦ c.clean lifted x i ph.0 ph.1 k from lt
    | no ge ↦ d.clean lifted x ph.0 j ph.2 k (omega arith) to
  ];
}

pub unless_clean : {p : Phrase} (rule : Rule) (refused : Text → ℕ → Bool) → Clean p → Clean (unless rule refused p)
unless_clean rule refused c = record { clean = λ lifted x i j ph k from to. c.clean lifted x i j ph.1 k from to }

pub only_clean : {p : Phrase} (b : Bool) → Clean p → Clean (only_if b p)
only_clean b c = record { clean = λ lifted x i j ph k from to. c.clean lifted x i j ph.1 k from to }

pub at_clean : {p : Phrase} (at : ℕ) → Clean p → Clean (begins_at at p)
at_clean at c = record { clean = λ lifted x i j ph k from to. c.clean lifted x i j ph.1 k from to }

pub flag_clean : (s : ℕ) → is symbol.Banned s ≡ false → (b : Bool) → Clean (flag s b)
flag_clean s other true = mark_clean s other
flag_clean s other false = nothing_clean

module _ {A : Type 0} (P : Rel A) (each : (a : A) → Clean (P a)) where
  pub optional_clean : (a : Option A) → Clean (optional P a)
  optional_clean None = nothing_clean
  optional_clean (Some a) = each a

  pub many_clean : (list : List A) → Clean (many P list)
  many_clean [] = nothing_clean
  many_clean (a ∷ others) = then_clean (each a) (many_clean others)

  pub some_clean : (list : List A) → Clean (some_of P list)
  some_clean [] = never_clean
  some_clean (a ∷ others) = then_clean (each a) (many_clean others)

module _ {A : Type 0} (s : ℕ) (other : is symbol.Banned s ≡ false) (P : Rel A) (each : (a : A) → Clean (P a)) where
  marked_clean : (list : List A) → Clean (many (λ a. mark s ▹ P a) list)
  marked_clean = many_clean (λ a. mark s ▹ P a) (λ a. then_clean (mark_clean s other) (each a))

  pub separated_clean : (list : List A) → Clean (separated s P list)
  separated_clean [] = never_clean
  separated_clean (a ∷ others) = then_clean (each a) (marked_clean others)

pub bracketed_clean : {A : Type 0} (depth o c : ℕ) → is symbol.Banned o ≡ false → is symbol.Banned c ≡ false → (P : Rel A) → ((a : A) → Clean (P a)) → (a : A) → Clean (bracketed depth o c P a)
bracketed_clean depth o c first last P each a = then_clean (unless_clean _ _ (mark_clean o first)) (then_clean (each a) (mark_clean c last))

pub located_clean : {A : Type 0} (P : Rel A) → ((a : A) → Clean (P a)) → (c : ℕ × A) → Clean (located P c)
located_clean P each c = record { clean = λ lifted x i j ph k from to. (each c.1).clean lifted x i j ph.1 k from to }
