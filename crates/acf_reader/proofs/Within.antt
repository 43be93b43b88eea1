-- A name is in the text; `code`, or a banned word in its place.
use Rattle.std.proofs.Common.{◌≡◌, ℕ, ◌+◌, ◌<◌, Bool, true, false, ◌||◌, cond, length, refl, ap, ◌∙◌, Ok, Err}
use Rattle.idl_grammar.specs.Text.{Text, symbol_at, is, is_in, Ban, no_words}
use Rattle.idl_grammar.specs.ReadPhrases.{Read, Syntax, Passes, mark_read}
use Rattle.std.proofs.lemmas.Bool.{eqb-true}
use Rattle.std.proofs.Math.Bool.{or-false}
use Rattle.idl_grammar.proofs.Within.{test_within}
use Rattle.idl_grammar.proofs.Sequences.{disjoint, apart}
use Rattle.idl_grammar.specs.Symbols as symbol
use Rattle.acf_reader.specs.Symbols as word
use Rattle.acf_reader.specs.Symbols.{names}
use Rattle.acf_reader.specs.Reading.{code_read}
use Rattle.acf_reader.proofs.NamesExact.{name_real}

pub name_within : (t : Text) (i : ℕ) (inside : Bool) → is_in (names inside) (symbol_at t i) ≡ true → i < length t
name_within t i inside h = test_within t i (λ s. is_in (names inside) s) (name_real inside) h

names_are_words : (inside : Bool) → disjoint (names inside) no_words ≡ true
unfolding names no_words
names_are_words true = refl
names_are_words false = refl

pub name_is_word : (t : Text) (i : ℕ) (inside : Bool) → is_in (names inside) (symbol_at t i) ≡ true → is_in no_words (symbol_at t i) ≡ false
name_is_word t i inside h = apart (names inside) no_words (symbol_at t i) (names_are_words inside) h

include_is_no_other : is_in no_words word.Include ≡ false
unfolding no_words
include_is_no_other = refl

pub include_is_word : (t : Text) (i : ℕ) → is (symbol_at t i) word.Include ≡ true → is_in no_words (symbol_at t i) ≡ false
include_is_word t i h = ap (is_in no_words) (eqb-true (symbol_at t i) word.Include h) ∙ include_is_no_other

pub banned_here : (t : Text) (i : ℕ) → is (symbol_at t i) symbol.BannedAttribute ≡ true → code_read t i ≡ Err (Passes Ban i)
banned_here t i h = rw h (by_case (is (symbol_at t i) word.Code)) where
  by_case : (b : Bool) → cond {A = Read (Unit {0})} (b || true) (Err (Passes Ban i)) (Err (Syntax i)) ≡ Err (Passes Ban i)
  by_case true = refl
  by_case false = refl

abbrev here : ℕ → Bool → Read (Unit {0})
here i b = cond b (Ok (tt, i + 1)) (Err (Syntax i))

pub not_banned : (t : Text) (i : ℕ) → is (symbol_at t i) symbol.BannedAttribute ≡ false → code_read t i ≡ mark_read word.Code t i
not_banned t i h = rw h (ap (here i) (or-false (is (symbol_at t i) word.Code)))
