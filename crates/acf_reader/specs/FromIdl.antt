-- The tokens of an attribute configuration file, from those that a file of IDL with the same text has.
use Rattle.std.specs.Prelude.{ℕ, if◌then◌else◌, List, [], ◌∷◌}
use Rattle.idl_grammar.specs.Text.{Lexeme, is_in, symbol_among}
use Rattle.idl_grammar.specs.Symbols as symbol
use Rattle.acf_reader.specs.Symbols.{own_words}

-- names of IDL, and words with which its attributes begin
unfoldable pub names_of_idl : List ℕ
names_of_idl =
    symbol.Name ∷ symbol.Uuid ∷ symbol.Version ∷ symbol.Endpoint ∷ symbol.Local ∷ symbol.PointerDefault ∷ symbol.Ref ∷ symbol.Unique ∷ symbol.Ptr
    ∷ symbol.In ∷ symbol.Out ∷ symbol.String ∷ symbol.ContextHandle ∷ symbol.SizeIs ∷ symbol.MaxIs ∷ symbol.LengthIs ∷ symbol.FirstIs
    ∷ symbol.LastIs ∷ symbol.SwitchIs ∷ symbol.SwitchType ∷ symbol.Idempotent ∷ symbol.Broadcast ∷ symbol.Maybe ∷ []

-- the symbol of a token, from the one that it has in IDL
unfoldable pub symbol_from : ℕ → List ℕ → ℕ
symbol_from s octets = if is_in names_of_idl s then symbol_among own_words symbol.Name octets else s

abbrev pub lexeme_from : Lexeme → Lexeme
lexeme_from l = record { symbol = symbol_from l.symbol l.octets; at = l.at; octets = l.octets }
