-- Phrases of a text that are phrases of it with `string` in the place of the words that only the windows language has.
use Rattle.std.proofs.Common.{◌≡◌, ◌⊎◌, inl, inr, ◌∙◌, ℕ, zero, suc, ◌+◌, Bool, true, false, cond, not, ◌&&◌, ◌||◌, leb, eqb, List, [], ◌∷◌, map, refl, sym, ap, ap₂}
use Rattle.std.proofs.Common.{Option, Some, None, option_map}
use Rattle.std.proofs.Common.{eq-eqb}
use Rattle.std.proofs.lemmas.Bool.{eqb-true}
use Rattle.nd_lemmas.proofs.Booleans.{clash}
use Rattle.idl_grammar.specs.Symbols.{windows_symbols}
use Rattle.idl_grammar.specs.Symbols as symbol
use Rattle.idl_grammar.specs.Text.{Lexeme, Text, Phrase, Rel, Rule, Lifted, the_end, lexeme_at, symbol_at, is, is_in, nothing, never, mark, token, unless, only_if, optional, many, some_of, separated}
use Rattle.idl_grammar.specs.Text.{located, bracketed, many_brackets, ◌▹◌}
use Rattle.idl_grammar.specs.Expressions.{operators, many_operators, is_operator, is_unary, symbol_level, binary_operators, unary_operators}
use Rattle.idl_grammar.specs.Grammar.{flag, begins_at, is_banned_attribute}
use Rattle.idl_words.specs.Replaced.{symbol_with_string, lexeme_with_string, text_with_string}

pub record Turns (p q : Phrase) : Type 0 where
  pub turns : (lifted : Lifted) (x : Text) (i j : ℕ) → p lifted x i j → q lifted (text_with_string x) i j

-- ## Tokens

pub lexeme_there : (x : Text) (i : ℕ) → lexeme_at (text_with_string x) i ≡ lexeme_with_string (lexeme_at x i)
lexeme_there [] i = refl
lexeme_there (l ∷ x) zero = refl
lexeme_there (l ∷ x) (suc i) = lexeme_there x i

-- a test that neither word passes
abbrev pub Passes : (ℕ → Bool) → Type 0
Passes f = (f symbol.AnySize ≡ false) × (f symbol.AnyLength ≡ false)

one_of_two : (s : ℕ) → is_in windows_symbols s ≡ true → (s ≡ symbol.AnySize) ⊎ (s ≡ symbol.AnyLength)
one_of_two s h = by_cases (eqb s symbol.AnySize) (eqb s symbol.AnyLength) refl refl h where
  by_cases : (a b : Bool) → eqb s symbol.AnySize ≡ a → eqb s symbol.AnyLength ≡ b → (a || (b || false)) ≡ true → (s ≡ symbol.AnySize) ⊎ (s ≡ symbol.AnyLength)
  by_cases true b e d i = inl (eqb-true s symbol.AnySize e)
  by_cases false true e d i = inr (eqb-true s symbol.AnyLength d)
  by_cases false false e d i = clash true refl (sym i)

not_windows : (f : ℕ → Bool) → Passes f → (s : ℕ) → f s ≡ true → is_in windows_symbols s ≡ false
not_windows f none s h = by_case (is_in windows_symbols s) refl where
  by_case : (b : Bool) → is_in windows_symbols s ≡ b → is_in windows_symbols s ≡ false
  by_case false e = e
  by_case true e = elim (one_of_two s e) [ inl is ↦ clash (f s) h (ap f is ∙ none.0) | inr is ↦ clash (f s) h (ap f is ∙ none.1) ]

kept : (l : Lexeme) → is_in windows_symbols l.symbol ≡ false → lexeme_with_string l ≡ l
kept l h = ap (λ (b : Bool). record { symbol = cond b symbol.String l.symbol; at = l.at; octets = l.octets }) h

-- a token that passes such a test stays as it is
pub same_there : (f : ℕ → Bool) → Passes f → (x : Text) (i : ℕ) → f (symbol_at x i) ≡ true → lexeme_at (text_with_string x) i ≡ lexeme_at x i
same_there f none x i h = lexeme_there x i ∙ kept (lexeme_at x i) (not_windows f none (symbol_at x i) h)

pub token_turns : {A : Type 0} (f : ℕ → Bool) → Passes f → (see : Lexeme → A) (a : A) → Turns (token (λ l. f l.symbol) see a) (token (λ l. f l.symbol) see a)
token_turns f none see a = record {
  turns = λ lifted x i j ph.
      let e = same_there f none x i ph.0 in
      (ap (λ (l : Lexeme). f l.symbol) e ∙ ph.0, ph.1 ∙ ap see (sym e), ph.2);
}

eq_eqb : (m n : ℕ) → m ≡ n → eqb m n ≡ true
eq_eqb m n e = eq-eqb m n e

pub mark_turns : (s : ℕ) → Passes (λ c. is c s) → Turns (mark s) (mark s)
mark_turns s none = record {
  turns = λ lifted x i j ph. (ap (λ (l : Lexeme). l.symbol) (same_there (λ c. is c s) none x i (eq_eqb (symbol_at x i) s ph.0)) ∙ ph.0, ph.1);
}

-- either word as `string`
pub word_turns : (s : ℕ) → symbol_with_string s ≡ symbol.String → Turns (mark s) (mark symbol.String)
word_turns s is = record { turns = λ lifted x i j ph. (ap (λ (l : Lexeme). l.symbol) (lexeme_there x i) ∙ (ap symbol_with_string ph.0 ∙ is), ph.1) }

-- ## Combinations

pub nothing_turns : Turns nothing nothing
nothing_turns = record { turns = λ lifted x i j ph. ph }

pub never_turns : {q : Phrase} → Turns never q
never_turns = record { turns = λ lifted x i j ph. absurd ph }

pub then_turns : {p p' q q' : Phrase} → Turns p p' → Turns q q' → Turns (p ▹ q) (p' ▹ q')
then_turns c d = record { turns = λ lifted x i j ph. (ph.0, c.turns lifted x i ph.0 ph.1, d.turns lifted x ph.0 j ph.2) }

-- a test of places that does not change
abbrev pub Same : (Text → ℕ → Bool) → Type 0
Same refused = (x : Text) (i : ℕ) → refused (text_with_string x) i ≡ refused x i

pub unless_turns : {p q : Phrase} (rule : Rule) (refused : Text → ℕ → Bool) → Same refused → Turns p q → Turns (unless rule refused p) (unless rule refused q)
unless_turns rule refused same c = record {
  turns = λ lifted x i j ph. (elim ph.0 [ inl up ↦ inl up | inr free ↦ inr (same x i ∙ free) ], c.turns lifted x i j ph.1);
}

pub only_turns : {p q : Phrase} (b : Bool) → Turns p q → Turns (only_if b p) (only_if b q)
only_turns b c = record { turns = λ lifted x i j ph. (ph.0, c.turns lifted x i j ph.1) }

pub octet_there : (x : Text) (i : ℕ) → (lexeme_at (text_with_string x) i).at ≡ (lexeme_at x i).at
octet_there x i = ap (λ (l : Lexeme). l.at) (lexeme_there x i)

pub at_turns : {p q : Phrase} (at : ℕ) → Turns p q → Turns (begins_at at p) (begins_at at q)
at_turns at c = record { turns = λ lifted x i j ph. (ph.0 ∙ sym (octet_there x i), c.turns lifted x i j ph.1) }

pub flag_turns : (s : ℕ) → Passes (λ c. is c s) → (b : Bool) → Turns (flag s b) (flag s b)
flag_turns s none true = mark_turns s none
flag_turns s none false = nothing_turns

-- lists and options, with what becomes of each tree
module _ {A : Type 0} (P : Rel A) (f : A → A) (each : (a : A) → Turns (P a) (P (f a))) where
  pub optional_turns : (a : Option A) → Turns (optional P a) (optional P (option_map f a))
  optional_turns None = nothing_turns
  optional_turns (Some a) = each a

  pub many_turns : (list : List A) → Turns (many P list) (many P (map f list))
  many_turns [] = nothing_turns
  many_turns (a ∷ others) = then_turns (each a) (many_turns others)

module _ {A : Type 0} (s : ℕ) (none : Passes (λ c. is c s)) (P : Rel A) (f : A → A) (each : (a : A) → Turns (P a) (P (f a))) where
  marked_turns : (list : List A) → Turns (many (λ a. mark s ▹ P a) list) (many (λ a. mark s ▹ P a) (map f list))
  marked_turns = many_turns (λ a. mark s ▹ P a) f (λ a. then_turns (mark_turns s none) (each a))

  pub separated_turns : (list : List A) → Turns (separated s P list) (separated s P (map f list))
  separated_turns [] = never_turns
  separated_turns (a ∷ others) = then_turns (each a) (marked_turns others)

-- the same where no tree changes
module _ {A : Type 0} (P : Rel A) (each : (a : A) → Turns (P a) (P a)) where
  pub optional_stays : (a : Option A) → Turns (optional P a) (optional P a)
  optional_stays None = nothing_turns
  optional_stays (Some a) = each a

  pub many_stays : (list : List A) → Turns (many P list) (many P list)
  many_stays [] = nothing_turns
  many_stays (a ∷ others) = then_turns (each a) (many_stays others)

  pub some_stays : (list : List A) → Turns (some_of P list) (some_of P list)
  some_stays [] = never_turns
  some_stays (a ∷ others) = then_turns (each a) (many_stays others)

module _ {A : Type 0} (s : ℕ) (none : Passes (λ c. is c s)) (P : Rel A) (each : (a : A) → Turns (P a) (P a)) where
  pub separated_stays : (list : List A) → Turns (separated s P list) (separated s P list)
  separated_stays [] = never_turns
  separated_stays (a ∷ others) = then_turns (each a) (many_stays (λ b. mark s ▹ P b) (λ b. then_turns (mark_turns s none) (each b)) others)

pub brackets_same : (depth : ℕ) → Same (many_brackets depth)
brackets_same depth x i = refl

pub bracketed_turns : {A : Type 0} (depth o c : ℕ) → Passes (λ k. is k o) → Passes (λ k. is k c) → (P : Rel A) (a b : A) → Turns (P a) (P b)
    → Turns (bracketed depth o c P a) (bracketed depth o c P b)
bracketed_turns depth o c first last P a b each =
    then_turns (unless_turns _ (many_brackets depth) (brackets_same depth) (mark_turns o first)) (then_turns each (mark_turns c last))

pub located_turns : {A : Type 0} (P : Rel A) (at : ℕ) (a b : A) → Turns (P a) (P b) → Turns (located P (at, a)) (located P (at, b))
located_turns P at a b each = record { turns = λ lifted x i j ph. (ph.0 ∙ sym (octet_there x i), each.turns lifted x i j ph.1) }

-- ## Tests of places

-- a test of symbols that neither word nor `string` passes
same_test : (f : ℕ → Bool) → Passes f → f symbol.String ≡ false → (s : ℕ) → f (symbol_with_string s) ≡ f s
same_test f none string s = by_case (is_in windows_symbols s) refl where
  by_case : (b : Bool) → is_in windows_symbols s ≡ b → f (cond b symbol.String s) ≡ f s
  by_case false e = refl
  by_case true e = string ∙ sym (elim (one_of_two s e) [ inl is ↦ ap f is ∙ none.0 | inr is ↦ ap f is ∙ none.1 ])

pub banned_same : Same is_banned_attribute
banned_same x i =
    ap (λ (l : Lexeme). is l.symbol symbol.BannedAttribute) (lexeme_there x i) ∙ same_test (λ c. is c symbol.BannedAttribute) (refl, refl) refl (symbol_at x i)

no_operators : (is_operator symbol.AnySize ≡ false) × ((is_operator symbol.AnyLength ≡ false) × (is_operator symbol.String ≡ false))
unfolding is_operator is_unary symbol_level binary_operators unary_operators
no_operators = (refl, (refl, refl))

operator_same : (x : Text) (i : ℕ) → is_operator (symbol_at (text_with_string x) i) ≡ is_operator (symbol_at x i)
operator_same x i =
    ap (λ (l : Lexeme). is_operator l.symbol) (lexeme_there x i) ∙ same_test is_operator (no_operators.0, no_operators.1.0) no_operators.1.1 (symbol_at x i)

counted_same : (x : Text) (start i : ℕ) → operators (text_with_string x) start i ≡ operators x start i
counted_same x start zero = refl
counted_same x start (suc i) = ap₂ (λ (n : ℕ) (b : Bool). n + cond (leb start i && b) 1 0) (counted_same x start i) (operator_same x i)

pub many_operators_same : (start : ℕ) → Same (many_operators start)
unfolding many_operators
many_operators_same start x i = ap (λ (n : ℕ). leb 64 n) (counted_same x start i)
