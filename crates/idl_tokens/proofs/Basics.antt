-- A name is in the text; a word that stands for a value is read.
use Rattle.std.proofs.Common.{◌≡◌, ℕ, ◌+◌, ◌<◌, Bool, true, false, ◌||◌, cond, eqb, length, refl, ap, ◌∙◌, List, [], ◌∷◌, Ok, Err, Option, Some, None}
use Rattle.idl_grammar.specs.Text.{Text, symbol_at, is_in, no_words}
use Rattle.idl_grammar.specs.ReadPhrases.{Syntax}
use Rattle.idl_grammar.proofs.Within.{test_within, mark_within}
pub use Rattle.idl_grammar.specs.ReadExpressions.{is_operand, operand_of}
use Rattle.idl_grammar.proofs.Sequences.{disjoint, apart}
use Rattle.idl_grammar.specs.Expressions.{Meant, names, symbols_of, value_of}
use Rattle.idl_grammar.specs.Reading.{one_of_read}
use Rattle.idl_tokens.specs.Found.{found}
use Rattle.idl_grammar.proofs.Combine.{name_real as not_end}

names_are_words : (inside : Bool) → disjoint (names inside) no_words ≡ true
unfolding names no_words
names_are_words true = refl
names_are_words false = refl

pub name_is_word : (t : Text) (i : ℕ) (inside : Bool) → is_in (names inside) (symbol_at t i) ≡ true → is_in no_words (symbol_at t i) ≡ false
name_is_word t i inside h = apart (names inside) no_words (symbol_at t i) (names_are_words inside) h

pub name_within : (t : Text) (i : ℕ) (inside : Bool) → is_in (names inside) (symbol_at t i) ≡ true → i < length t
name_within t i inside h = test_within t i (λ s. is_in (names inside) s) (not_end inside) h

-- words that stand for a value

pub is_found : {A : Type 0} (o : A) (list : List (Meant A)) (s : ℕ) (v : A) → found list s ≡ Some v → (is_in (symbols_of list) s ≡ true) × (value_of o list s ≡ v)
is_found {A = A} o [] s v h = absurd (let e : ◌≡◌ {A = Option A} None (Some v) = h in cc)
is_found {A = A} o (m ∷ others) s v h = by_case (eqb s m.symbol) (λ e. is_found o others s v e) h where
  by_case : (b : Bool) → (found others s ≡ Some v → (is_in (symbols_of others) s ≡ true) × (value_of o others s ≡ v)) → cond b (Some m.value) (found others s) ≡ Some v
      → ((b || is_in (symbols_of others) s) ≡ true) × (cond b m.value (value_of o others s) ≡ v)
  by_case true again e = (refl, let p : Some m.value ≡ Some v = e in cc)
  by_case false again e = again e

pub not_found : {A : Type 0} (list : List (Meant A)) (s : ℕ) → found list s ≡ None → is_in (symbols_of list) s ≡ false
not_found [] s h = refl
not_found {A = A} (m ∷ others) s h = by_case (eqb s m.symbol) (λ e. not_found others s e) h where
  by_case : (b : Bool) → (found others s ≡ None → is_in (symbols_of others) s ≡ false) → cond b (Some m.value) (found others s) ≡ None → (b || is_in (symbols_of others) s) ≡ false
  by_case true again e = absurd (let p : Some m.value ≡ None = e in cc)
  by_case false again e = again e

pub one_of_found : {A : Type 0} (o : A) (list : List (Meant A)) (t : Text) (i : ℕ) (v : A) → found list (symbol_at t i) ≡ Some v → one_of_read o list t i ≡ Ok (v, i + 1)
one_of_found {A = A} o list t i v h =
    let p = is_found o list (symbol_at t i) v h in
    ap (λ (b : Bool). cond b (Ok (value_of o list (symbol_at t i), i + 1)) (Err (Syntax i))) p.0 ∙ ap (λ (w : A). Ok (w, i + 1)) p.1

pub one_of_none : {A : Type 0} (o : A) (list : List (Meant A)) (t : Text) (i : ℕ) → found list (symbol_at t i) ≡ None → one_of_read o list t i ≡ Err (Syntax i)
one_of_none o list t i h =
    ap (λ (b : Bool). cond b (Ok (value_of o list (symbol_at t i), i + 1)) (Err (Syntax i))) (not_found list (symbol_at t i) h)

pub found_within : {A : Type 0} (list : List (Meant A)) (t : Text) (i : ℕ) (v : A) → is_in (symbols_of list) 0 ≡ false → found list (symbol_at t i) ≡ Some v → i < length t
found_within list t i v real h = test_within t i (λ s. is_in (symbols_of list) s) real (is_found v list (symbol_at t i) v h).0

-- what a function that reads a word that stands for a value names
pub ruleset words_read = (one_of_found, one_of_none, found_within)

-- what the function that reads an operand names
pub ruleset operands = (name_within, mark_within)
