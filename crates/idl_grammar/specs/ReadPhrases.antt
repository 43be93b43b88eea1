-- Readings: what the functions of a parser give, on lists.
use Rattle.std.specs.Prelude.{ℕ, zero, suc, ◌+◌, Bool, List, [], ◌∷◌, if◌then◌else◌, Option, Some, None, Result, Ok, Err}
use Rattle.std.specs.Prelude.{◌⊎◌, length}
use Rattle.std.proofs.Common.{inl, inr}
use Rattle.idl_grammar.specs.Text.{Text, Lexeme, lexeme_at, symbol_at, is, is_in, Rule, Depth, many_brackets}

-- Why a text is refused, and at which token: none goes on there, or a rule refuses the one that does.
pub data Fault : Type 0 where
  Syntax : (token : ℕ) → Fault
  Passes : (rule : Rule) (token : ℕ) → Fault

-- a value and the place past it, or the fault
abbrev pub Read : Type 0 → Type 0
Read A = Result (A × ℕ) Fault

abbrev pub join : {A B : Type 0} → A → Read B → Read (A × B)
join a (Err f) = Err f
join a (Ok y) = Ok ((a, y.0), y.1)

-- one after the other
abbrev pub and_then : {A B : Type 0} → Read A → (A → ℕ → Read B) → Read (A × B)
and_then (Err f) g = Err f
and_then (Ok x) g = join x.0 (g x.0 x.1)

-- a value made of what was read
abbrev pub turned : {A C : Type 0} → (A → C) → Read A → Read C
turned make (Err f) = Err f
turned make (Ok x) = Ok (make x.0, x.1)

-- one token that passes a test
abbrev pub token_read : {A : Type 0} → (Lexeme → Bool) → (Lexeme → A) → Text → ℕ → Read A
token_read good see t i = if good (lexeme_at t i) then Ok (see (lexeme_at t i), i + 1) else Err (Syntax i)

-- the same, where a rule may refuse it
abbrev pub ruled_read : {A : Type 0} → Rule → (Text → ℕ → Bool) → (Lexeme → Bool) → (Lexeme → A) → Text → ℕ → Read A
ruled_read rule refused good see t i =
    if good (lexeme_at t i) then (if refused t i then Err (Passes rule i) else Ok (see (lexeme_at t i), i + 1)) else Err (Syntax i)

abbrev pub mark_read : ℕ → Text → ℕ → Read (Unit {0})
mark_read s t i = if is (symbol_at t i) s then Ok (tt, i + 1) else Err (Syntax i)

-- an item, where the next token passes a test
abbrev pub optional_read : {A : Type 0} → (Lexeme → Bool) → (ℕ → Read A) → Text → ℕ → Read (Option A)
optional_read go item t i = if go (lexeme_at t i) then turned Some (item i) else Ok (None, i)

-- items, while the next token passes a test
abbrev pub many_read : {A : Type 0} → (Lexeme → Bool) → (ℕ → Read A) → Text → ℕ → ℕ → Read (List A)
many_read go item t zero i = Ok ([], i)
many_read go item t (suc n) i =
    if go (lexeme_at t i) then turned (λ p. p.0 ∷ p.1) (and_then (item i) (λ a m. many_read go item t n m)) else Ok ([], i)

abbrev pub to_unit : Lexeme → Unit {0}
to_unit a = tt

-- ## readings of trees

-- what follows a mark
abbrev pub skip : {B : Type 0} → Read (Unit {0}) → (ℕ → Read B) → Read B
skip (Err f) g = Err f
skip (Ok x) g = g x.1

-- a value, and a mark after it
abbrev pub ended : {A : Type 0} → A → Read (Unit {0}) → Read A
ended a (Err f) = Err f
ended a (Ok y) = Ok (a, y.1)

abbrev pub end_with : {A : Type 0} → Read A → (ℕ → Read (Unit {0})) → Read A
end_with (Err f) g = Err f
end_with (Ok x) g = ended x.0 (g x.1)

-- with the octet where it begins
abbrev pub located_read : {A : Type 0} → Text → ℕ → Read A → Read (ℕ × A)
located_read t i r = turned (λ a. ((lexeme_at t i).at, a)) r

-- the first where the next symbol is one of these, else the second
abbrev pub choice_read : {A B : Type 0} → List ℕ → Text → ℕ → Read A → Read B → Read (A ⊎ B)
choice_read firsts t i r s = if is_in firsts (symbol_at t i) then turned inl r else turned inr s

-- an item where the next symbol is one of these
abbrev pub option_read : {A : Type 0} → List ℕ → Text → (ℕ → Read A) → ℕ → Read (Option A)
option_read firsts t item i = optional_read (λ a. is_in firsts a.symbol) item t i

-- items while the next symbol is one of these
abbrev pub list_read : {A : Type 0} → List ℕ → Text → (ℕ → Read A) → ℕ → Read (List A)
list_read firsts t item i = many_read (λ a. is_in firsts a.symbol) item t (suc (length t)) i

-- at least one
abbrev pub some_read : {A : Type 0} → List ℕ → Text → (ℕ → Read A) → ℕ → Read (List A)
some_read firsts t item i = turned (λ p. p.0 ∷ p.1) (and_then (item i) (λ a m. list_read firsts t item m))

-- a mark, and an item
abbrev pub behind_read : {A : Type 0} → ℕ → Text → (ℕ → Read A) → ℕ → Read A
behind_read s t item i = skip (mark_read s t i) item

-- at least one, with a mark between each two
abbrev pub separated_read : {A : Type 0} → ℕ → Text → (ℕ → Read A) → ℕ → Read (List A)
separated_read s t item i = turned (λ p. p.0 ∷ p.1) (and_then (item i) (λ a m. list_read (s ∷ []) t (behind_read s t item) m))

-- a bracket that opens, with so many others open
abbrev pub open_read : ℕ → ℕ → Text → ℕ → Read (Unit {0})
open_read depth s t i = ruled_read Depth (many_brackets depth) (λ a. is a.symbol s) to_unit t i

-- between brackets
abbrev pub bracketed_read : {A : Type 0} → ℕ → ℕ → ℕ → Text → (ℕ → Read A) → ℕ → Read A
bracketed_read depth open_mark close_mark t item i = skip (open_read depth open_mark t i) (λ m. end_with (item m) (λ n. mark_read close_mark t n))
