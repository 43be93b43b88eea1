-- Names are read exactly.
use Rattle.std.proofs.Common.{◌≡◌, ℕ, ◌≤◌, Bool, true, false, length, refl}
use Rattle.idl_grammar.specs.Text.{Text, is_in}
use Rattle.idl_grammar.proofs.Exact.{Stops, Exact, HasPhrase}
use Rattle.idl_grammar.proofs.Parts.{token_exact, token_has, of_symbol}
use Rattle.idl_grammar.proofs.Sequences.{Begins}
use Rattle.idl_grammar.specs.Symbols as symbol
use Rattle.idl_grammar.specs.Expressions.{spelling}
use Rattle.acf_reader.specs.Symbols.{names}
use Rattle.acf_reader.specs.Grammar.{ident}
use Rattle.acf_reader.specs.Reading.{ident_read}

name_is : (inside : Bool) → is_in (names inside) symbol.Name ≡ true
unfolding names
name_is true = refl
name_is false = refl

pub name_real : (inside : Bool) → is_in (names inside) 0 ≡ false
unfolding names
name_real true = refl
name_real false = refl

module _ (inside : Bool) where
  pub ident_exact : (Stop : Stops) (t : Text) (i : ℕ) → i ≤ length t → Exact (ident inside) Stop t i (ident_read inside t i)
  ident_exact Stop t i in_text = token_exact (λ a. is_in (names inside) a.symbol) spelling (of_symbol symbol.Name) (name_is inside) (name_real inside) Stop t i in_text

  pub ident_has : HasPhrase (ident inside)
  ident_has = token_has (λ a. is_in (names inside) a.symbol) spelling (of_symbol symbol.Name) (name_is inside) (name_real inside)

  pub ident_begins : Begins (ident inside) (names inside)
  ident_begins lifted x i j u ph = ph.0
