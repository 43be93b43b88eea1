-- Texts of tokens, and phrases in them; and the tokens of a text as the grammar sees them.
use Rattle.std.specs.Prelude.{◌≡◌, ◌⊎◌, ℕ, ◌+◌, Bool, true, false, if◌then◌else◌, ◌==◌, nat_le, List, [], ◌∷◌, slice_index_or, ◌++◌, map, Option}
use Rattle.std.specs.Prelude.{slice_range}
use Rattle.std.specs.Prelude.{Some, None}
use Rattle.std.specs.List.{list_any}
use Rattle.std.proofs.Common.{inl, inr}
use Rattle.std.specs.Str.{bytes_eq}
use Rattle.nd_base.specs.Text.{is_identifier}
use Rattle.idl_lexer.specs.declared.tokens.TokenKind.{TokenKind}
use Rattle.idl_lexer.specs.declared.tokens.TokenKind.TheVariants as kind
use Rattle.idl_lexer.specs.declared.tokens.Token.{Token}
use Rattle.idl_lexer.specs.Verdict.{Lexed}
use Rattle.idl_lexer.specs.Pieces.{IsUuid}
use Rattle.idl_grammar.specs.declared.language.Language.{Language}
use Rattle.idl_grammar.specs.declared.language.Language.TheVariants.{C706, Windows}
use Rattle.idl_grammar.specs.Symbols.{Spelled, reserved_words, attribute_words, banned_words, banned_attributes, windows_words, marks}
use Rattle.idl_grammar.specs.Symbols as symbol

-- ## Texts and phrases

-- A token as a grammar sees it: the number that the grammar gives its symbol, the octet where it begins, and its
-- octets.
pub record Lexeme : Type 0 where
  pub symbol : ℕ
  pub at : ℕ
  pub octets : List ℕ

abbrev pub Text : Type 0
Text = List Lexeme

-- what stands past the last token; no token has its number
abbrev pub the_end : Lexeme
the_end = record { symbol = 0; at = 0; octets = [] }

abbrev pub lexeme_at : Text → ℕ → Lexeme
lexeme_at x i = slice_index_or x i the_end

abbrev pub symbol_at : Text → ℕ → ℕ
symbol_at x i = (lexeme_at x i).symbol

-- whether two symbols are one
abbrev pub is : ℕ → ℕ → Bool
is a b = a == b

-- What may refuse a token that the grammar else takes: a limit of depth, or a ban of a word.
pub data Rule : Type 0 where
  Depth : Rule
  Ban : Rule

-- the places at which a rule is lifted
abbrev pub Lifted : Type 0
Lifted = Rule → ℕ → Bool

-- A phrase is a relation of a text, the place where it begins and the place past it.
abbrev pub Phrase : Type 1
Phrase = Lifted → Text → ℕ → ℕ → Type 0

-- nothing
abbrev pub nothing : Phrase
nothing lifted x i j = j ≡ i

-- no phrase at all
abbrev pub never : Phrase
never lifted x i j = ⊥

-- one token of a symbol
abbrev pub mark : ℕ → Phrase
mark s lifted x i j = (symbol_at x i ≡ s) × (j ≡ i + 1)

infixr 10 ◌▹◌
-- one after the other
abbrev pub ◌▹◌ : Phrase → Phrase → Phrase
(p ▹ q) lifted x i j = (m : ℕ) × p lifted x i m × q lifted x m j

-- each of a list
abbrev pub many : {A : Type 0} → (A → Phrase) → List A → Phrase
many p [] = nothing
many p (a ∷ rest) = p a ▹ many p rest

-- one token that passes a test, and what is kept of it
abbrev pub token : {A : Type 0} → (Lexeme → Bool) → (Lexeme → A) → A → Phrase
token good see a lifted x i j = (good (lexeme_at x i) ≡ true) × (a ≡ see (lexeme_at x i)) × (j ≡ i + 1)

-- nothing, or one
abbrev pub optional : {A : Type 0} → (A → Phrase) → Option A → Phrase
optional p None = nothing
optional p (Some a) = p a

-- only where a condition holds
abbrev pub only_if : Bool → Phrase → Phrase
only_if b p lifted x i j = (b ≡ true) × p lifted x i j

-- A phrase that a rule refuses at the places of a test, unless the rule is lifted there.
abbrev pub unless : Rule → (Text → ℕ → Bool) → Phrase → Phrase
unless rule refused p lifted x i j = ((lifted rule i ≡ true) ⊎ (refused x i ≡ false)) × p lifted x i j

-- ### Phrases of trees

-- a phrase for each tree of a type
abbrev pub Rel : Type 0 → Type 1
Rel A = A → Phrase

infixr 9 ◌⊗◌
-- one after the other
abbrev pub ◌⊗◌ : {A B : Type 0} → Rel A → Rel B → Rel (A × B)
(P ⊗ Q) c = P c.0 ▹ Q c.1

infixr 9 ◌⊳◌
-- a mark, and what follows it
abbrev pub ◌⊳◌ : {A : Type 0} → ℕ → Rel A → Rel A
(s ⊳ P) a = mark s ▹ P a

infixl 9 ◌⊲◌
-- a phrase, and a mark after it
abbrev pub ◌⊲◌ : {A : Type 0} → Rel A → ℕ → Rel A
(P ⊲ s) a = P a ▹ mark s

infixr 8 ◌∣◌
-- one or the other
abbrev pub ◌∣◌ : {A B : Type 0} → Rel A → Rel B → Rel (A ⊎ B)
(P ∣ Q) (inl a) = P a
(P ∣ Q) (inr b) = Q b

-- a phrase, with the octet where it begins
abbrev pub located : {A : Type 0} → Rel A → Rel (ℕ × A)
located P c lifted x i j = (c.0 ≡ (lexeme_at x i).at) × P c.1 lifted x i j

-- at least one
abbrev pub some_of : {A : Type 0} → Rel A → Rel (List A)
some_of P [] = never
some_of P (a ∷ others) = P a ▹ many P others

-- at least one, with a mark between each two
abbrev pub separated : {A : Type 0} → ℕ → Rel A → Rel (List A)
separated s P [] = never
separated s P (a ∷ others) = P a ▹ many (s ⊳ P) others

-- a bracket here would be the 65th that is open
abbrev pub many_brackets : ℕ → Text → ℕ → Bool
many_brackets depth x i = nat_le 64 depth

-- a phrase between brackets, of which so many others are open
abbrev pub bracketed : {A : Type 0} → ℕ → ℕ → ℕ → Rel A → Rel A
bracketed depth open_mark close_mark P a = unless Depth (many_brackets depth) (mark open_mark) ▹ P a ▹ mark close_mark

-- whether a symbol is one of a list
abbrev pub is_in : List ℕ → ℕ → Bool
is_in symbols s = list_any (λ d. s == d) symbols

-- what is made of a phrase
abbrev pub made : {A C : Type 0} → (A → C) → Rel A → Rel C
made {A} make P c lifted x i j = (a : A) × (c ≡ make a) × P a lifted x i j

-- ## The tokens of a text as the grammar sees them

-- the symbol that is spelled so, or another where none is
abbrev pub symbol_among : List Spelled → ℕ → List ℕ → ℕ
symbol_among [] otherwise octets = otherwise
symbol_among (s ∷ others) otherwise octets = if bytes_eq octets s.octets then s.symbol else symbol_among others otherwise octets

-- all words of C706 that are no mere names
unfoldable pub words : List Spelled
words = reserved_words ++ attribute_words ++ banned_words ++ banned_attributes

-- The symbol of a word. Here alone a language counts.
unfoldable pub symbol_of_word : Language → List ℕ → ℕ
symbol_of_word C706 octets = symbol_among words symbol.Name octets
symbol_of_word Windows octets = symbol_among words (symbol_among windows_words symbol.Name octets) octets

-- the symbol of a token
unfoldable pub symbol_of : Language → TokenKind → List ℕ → ℕ
symbol_of language kind.Word octets = symbol_of_word language octets
symbol_of language kind.Uuid octets = symbol.UuidValue
symbol_of language kind.Number octets = symbol.Number
symbol_of language kind.Char octets = symbol.Character
symbol_of language kind.Str octets = symbol.Quoted
symbol_of language kind.Mark octets = symbol_among marks symbol.Unknown octets

abbrev pub lexeme_of : Language → List ℕ → Token → Lexeme
lexeme_of language text t =
    let octets = slice_range text t.from t.to in
    record { symbol = symbol_of language t.kind octets; at = t.from; octets = octets }

-- the tokens of a text that was lexed
abbrev pub lexemes : Language → Lexed → Text
lexemes language lexed = map (lexeme_of language lexed.text) lexed.tokens

-- ### What words and UUIDs are

-- the symbols of all that is no word
unfoldable pub no_words : List ℕ
no_words = symbol.End ∷ symbol.UuidValue ∷ symbol.Number ∷ symbol.Character ∷ symbol.Quoted ∷ symbol.Unknown ∷ map (λ s. s.symbol) marks

-- a text whose words are identifiers, and whose UUIDs have their form
pub record IsFormed (x : Text) : Type 0 where
  pub word : (i : ℕ) → is_in no_words (symbol_at x i) ≡ false → is_identifier (lexeme_at x i).octets ≡ true
  pub uuid : (i : ℕ) → symbol_at x i ≡ symbol.UuidValue → IsUuid (lexeme_at x i).octets
