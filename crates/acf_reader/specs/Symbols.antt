-- The symbols of attribute configuration files, and the tokens of a text as their grammar sees them.
use Rattle.std.specs.Prelude.{ℕ, Bool, if◌then◌else◌, List, [], ◌∷◌, ◌++◌, map, codes, slice_range}
use Rattle.idl_lexer.specs.declared.tokens.TokenKind.{TokenKind}
use Rattle.idl_lexer.specs.declared.tokens.TokenKind.TheVariants as token
use Rattle.idl_lexer.specs.declared.tokens.Token.{Token}
use Rattle.idl_lexer.specs.Verdict.{Lexed}
use Rattle.idl_grammar.specs.Symbols.{Spelled, reserved_words, banned_words, banned_attributes, marks}
use Rattle.idl_grammar.specs.Symbols as symbol
use Rattle.idl_grammar.specs.Text.{Lexeme, Text, symbol_among}

-- ## The symbols that are an attribute configuration file's own: its words (C706, section 4.3)

-- All others are those of IDL.

-- ### Words with which an attribute begins: names outside attribute brackets

abbrev pub AutoHandle : ℕ
AutoHandle = 110

abbrev pub ExplicitHandle : ℕ
ExplicitHandle = 111

abbrev pub ImplicitHandle : ℕ
ImplicitHandle = 112

abbrev pub Code : ℕ
Code = 113

abbrev pub NoCode : ℕ
NoCode = 114

abbrev pub InLine : ℕ
InLine = 115

abbrev pub OutOfLine : ℕ
OutOfLine = 116

abbrev pub EnableAllocate : ℕ
EnableAllocate = 117

abbrev pub Heap : ℕ
Heap = 118

abbrev pub CommStatus : ℕ
CommStatus = 119

abbrev pub FaultStatus : ℕ
FaultStatus = 120

-- ### A word that begins an element of the body where a string follows, and is a name elsewhere

abbrev pub Include : ℕ
Include = 121

-- ### How they are spelled

abbrev spelled : List ℕ → ℕ → Spelled
spelled octets symbol = record { octets = octets; symbol = symbol }

abbrev pub own_words : List Spelled
own_words =
    spelled (codes "auto_handle") AutoHandle ∷
    spelled (codes "explicit_handle") ExplicitHandle ∷
    spelled (codes "implicit_handle") ImplicitHandle ∷
    spelled (codes "code") Code ∷
    spelled (codes "nocode") NoCode ∷
    spelled (codes "in_line") InLine ∷
    spelled (codes "out_of_line") OutOfLine ∷
    spelled (codes "enable_allocate") EnableAllocate ∷
    spelled (codes "heap") Heap ∷
    spelled (codes "comm_status") CommStatus ∷
    spelled (codes "fault_status") FaultStatus ∷
    spelled (codes "include") Include ∷ []

-- ### Names (C706, section 4.2.2)

abbrev attribute_symbols : List ℕ
attribute_symbols =
    AutoHandle ∷ ExplicitHandle ∷ ImplicitHandle ∷ Code ∷ NoCode ∷ InLine ∷ OutOfLine ∷ EnableAllocate ∷ Heap ∷ CommStatus ∷ FaultStatus ∷ []

abbrev names_inside : List ℕ
names_inside = symbol.Name ∷ symbol.BannedAttribute ∷ Include ∷ []

abbrev names_outside : List ℕ
names_outside = symbol.Name ∷ symbol.BannedAttribute ∷ Include ∷ attribute_symbols

-- what is a name: no reserved word, and inside attribute brackets no word with which an attribute begins
unfoldable pub names : Bool → List ℕ
names inside = if inside then names_inside else names_outside

-- ## The tokens of a text

-- Reserved words, banned words and marks are those of IDL. Words with which an attribute of IDL begins are mere names here.

-- all words that are no mere names
unfoldable pub words : List Spelled
words = reserved_words ++ banned_words ++ banned_attributes ++ own_words

-- the symbol of a token
unfoldable pub symbol_of : TokenKind → List ℕ → ℕ
symbol_of token.Word octets = symbol_among words symbol.Name octets
symbol_of token.Uuid octets = symbol.UuidValue
symbol_of token.Number octets = symbol.Number
symbol_of token.Char octets = symbol.Character
symbol_of token.Str octets = symbol.Quoted
symbol_of token.Mark octets = symbol_among marks symbol.Unknown octets

abbrev pub lexeme_of : List ℕ → Token → Lexeme
lexeme_of text t =
    let octets = slice_range text t.from t.to in
    record { symbol = symbol_of t.kind octets; at = t.from; octets = octets }

-- the tokens of a text that was lexed
abbrev pub lexemes : Lexed → Text
lexemes lexed = map (lexeme_of lexed.text) lexed.tokens
