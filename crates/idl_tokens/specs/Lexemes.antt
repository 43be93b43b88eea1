-- A token as the parser has it, and as the grammar sees it.
use Rattle.std.specs.Prelude.{List, map}
use Rattle.idl_grammar.specs.Text as phrases
use Rattle.idl_grammar.specs.Symbols.{Spelled}
use Rattle.idl_tokens.specs.declared.lexemes.Lexeme.{Lexeme}
use Rattle.idl_tokens.specs.declared.words.Entry.{Entry}

abbrev pub seen_lexeme : Lexeme → phrases.Lexeme
seen_lexeme l = record { symbol = l.symbol; at = l.at; octets = l.octets.now }

-- the text that the parser reads
abbrev pub text_of : List Lexeme → phrases.Text
text_of lexemes = map seen_lexeme lexemes

-- a word or a mark of the parser, as the grammar has it
abbrev pub seen_entry : Entry → Spelled
seen_entry e = record { octets = e.octets.now; symbol = e.symbol }
