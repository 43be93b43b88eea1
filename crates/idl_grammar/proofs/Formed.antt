-- The words of a text that was lexed are identifiers, and its UUIDs have their form.
use Rattle.std.proofs.Common.{◌≡◌, ℕ, zero, suc, Bool, true, false, cond, eqb, not, List, [], ◌∷◌, map, slice_range, refl, ap}
use Rattle.std.specs.List.{list_all, AllByRecursion}
use Rattle.std.specs.Str.{bytes_eq}
use Rattle.nd_base.specs.Text.{is_identifier}
use Rattle.idl_grammar.specs.declared.language.Language.{Language}
use Rattle.idl_grammar.specs.declared.language.Language.TheVariants.{C706, Windows}
use Rattle.idl_grammar.specs.Text.{lexeme_at, symbol_at, is_in, symbol_among, words, symbol_of_word, symbol_of, lexeme_of, lexemes, no_words, IsFormed}
use Rattle.std.proofs.lemmas.Bool.{and_parts as both}
use Rattle.nd_lemmas.proofs.Booleans.{clash}
use Rattle.idl_lexer.specs.declared.tokens.TokenKind.{TokenKind}
use Rattle.idl_lexer.specs.declared.tokens.TokenKind.TheVariants as token
use Rattle.idl_lexer.specs.declared.tokens.Token.{Token}
use Rattle.idl_lexer.specs.Verdict.{Lexed, AreFormed}
use Rattle.idl_lexer.specs.Verdict as lexed
use Rattle.idl_lexer.specs.Pieces.{IsUuid}
use Rattle.idl_grammar.specs.Symbols.{Spelled, windows_words, marks}
use Rattle.idl_grammar.specs.Symbols as symbol

cond_one : (b : Bool) (m n : ℕ) (test : ℕ → Bool) (wanted : Bool) → test m ≡ wanted → test n ≡ wanted → test (cond b m n) ≡ wanted
cond_one true m n test wanted p q = p
cond_one false m n test wanted p q = q

-- where each symbol of a list passes a test, and the other one too, what is found passes it
pub among_passes : (test : ℕ → Bool) (list : List Spelled) (otherwise : ℕ) (octets : List ℕ) → list_all (λ s. test s.symbol) list ≡ true → test otherwise ≡ true
    → test (symbol_among list otherwise octets) ≡ true
among_passes test [] otherwise octets all other = other
among_passes test (s ∷ others) otherwise octets all other =
    let parts = both (test s.symbol) (list_all (λ s. test s.symbol) others) all in
    cond_one (bytes_eq octets s.octets) s.symbol (symbol_among others otherwise octets) test true parts.0 (among_passes test others otherwise octets parts.1 other)

-- what is no word
abbrev is_other : ℕ → Bool
is_other s = is_in no_words s

marks_are_others : list_all (λ s. is_other s.symbol) marks ≡ true
unfolding no_words
marks_are_others = refl

unknown_is_other : is_other symbol.Unknown ≡ true
unfolding no_words
unknown_is_other = refl

word_kind : (language : Language) (kind : TokenKind) (octets : List ℕ) → is_other (symbol_of language kind octets) ≡ false → kind ≡ token.Word
unfolding symbol_of no_words
word_kind language token.Word octets h = refl
word_kind language token.Uuid octets h = clash true refl h
word_kind language token.Number octets h = clash true refl h
word_kind language token.Char octets h = clash true refl h
word_kind language token.Str octets h = clash true refl h
word_kind language token.Mark octets h = clash (is_other (symbol_among marks symbol.Unknown octets)) (among_passes is_other marks symbol.Unknown octets marks_are_others unknown_is_other) h

-- no symbol of a UUID
abbrev pub is_no_uuid : ℕ → Bool
is_no_uuid s = not (eqb s symbol.UuidValue)

pub no_uuid : {A : Type 0} (s : ℕ) → is_no_uuid s ≡ true → s ≡ symbol.UuidValue → A
no_uuid s h e = clash (is_no_uuid s) h (ap is_no_uuid e)

word_is_no_uuid : (language : Language) (octets : List ℕ) → is_no_uuid (symbol_of_word language octets) ≡ true
unfolding symbol_of_word words
word_is_no_uuid C706 octets = among_passes is_no_uuid words symbol.Name octets refl refl
word_is_no_uuid Windows octets =
    among_passes is_no_uuid words (symbol_among windows_words symbol.Name octets) octets refl (among_passes is_no_uuid windows_words symbol.Name octets refl refl)

uuid_kind : (language : Language) (kind : TokenKind) (octets : List ℕ) → symbol_of language kind octets ≡ symbol.UuidValue → kind ≡ token.Uuid
unfolding symbol_of
uuid_kind language token.Uuid octets h = refl
uuid_kind language token.Word octets h = no_uuid (symbol_of_word language octets) (word_is_no_uuid language octets) h
uuid_kind language token.Number octets h = no_uuid symbol.Number refl h
uuid_kind language token.Char octets h = no_uuid symbol.Character refl h
uuid_kind language token.Str octets h = no_uuid symbol.Quoted refl h
uuid_kind language token.Mark octets h = no_uuid (symbol_among marks symbol.Unknown octets) (among_passes is_no_uuid marks symbol.Unknown octets refl refl) h

end_is_other : is_other 0 ≡ true
unfolding no_words
end_is_other = refl

words_at : (language : Language) (text : List ℕ) (tokens : List Token) → AllByRecursion (lexed.IsFormed text) tokens → (i : ℕ)
    → is_other (symbol_at (map (lexeme_of language text) tokens) i) ≡ false → is_identifier (lexeme_at (map (lexeme_of language text) tokens) i).octets ≡ true
words_at language text [] all i h = clash (is_other 0) end_is_other h
words_at language text (t ∷ others) all zero h = all.0.word (word_kind language t.kind (slice_range text t.from t.to) h)
words_at language text (t ∷ others) all (suc i) h = words_at language text others all.1 i h

uuids_at : (language : Language) (text : List ℕ) (tokens : List Token) → AllByRecursion (lexed.IsFormed text) tokens → (i : ℕ)
    → symbol_at (map (lexeme_of language text) tokens) i ≡ symbol.UuidValue → IsUuid (lexeme_at (map (lexeme_of language text) tokens) i).octets
uuids_at language text [] all i h = no_uuid 0 refl h
uuids_at language text (t ∷ others) all zero h = all.0.uuid (uuid_kind language t.kind (slice_range text t.from t.to) h)
uuids_at language text (t ∷ others) all (suc i) h = uuids_at language text others all.1 i h

pub lexemes_formed : (language : Language) (l : Lexed) → AreFormed l → IsFormed (lexemes language l)
lexemes_formed language l all = record { word = words_at language l.text l.tokens all; uuid = uuids_at language l.text l.tokens all }
