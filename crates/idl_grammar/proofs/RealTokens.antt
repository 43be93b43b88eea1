-- No token of a text is the end.
use Rattle.std.proofs.Common.{◌≡◌, ℕ, zero, suc, Bool, true, false, cond, eqb, not, List, [], ◌∷◌, map, refl, ap, arith}
use Rattle.std.specs.List.{list_all}
use Rattle.std.specs.Str.{bytes_eq}
use Rattle.idl_grammar.specs.declared.language.Language.{Language}
use Rattle.idl_grammar.specs.declared.language.Language.TheVariants.{C706, Windows}
use Rattle.idl_grammar.specs.Text.{Lexeme, symbol_among, words, symbol_of_word, symbol_of, lexeme_of, lexemes}
use Rattle.idl_grammar.specs.Gives.{IsText}
use Rattle.std.proofs.lemmas.Bool.{and_parts as both, not-true as not_zero}
use Rattle.nd_lemmas.proofs.Booleans.{clash}
use Rattle.idl_lexer.specs.declared.tokens.TokenKind.{TokenKind}
use Rattle.idl_lexer.specs.declared.tokens.TokenKind.TheVariants as token
use Rattle.idl_lexer.specs.declared.tokens.Token.{Token}
use Rattle.idl_lexer.specs.Verdict.{Lexed}
use Rattle.idl_grammar.specs.Symbols.{Spelled, windows_words, marks}
use Rattle.idl_grammar.specs.Symbols as symbol

-- no word of a list has the number of the end
abbrev pub are_real : List Spelled → Bool
are_real list = list_all (λ s. not (eqb s.symbol 0)) list

cond_real : (b : Bool) (m n : ℕ) → eqb m 0 ≡ false → eqb n 0 ≡ false → eqb (cond b m n) 0 ≡ false
cond_real true m n p q = p
cond_real false m n p q = q

pub among_real : (list : List Spelled) (otherwise : ℕ) (octets : List ℕ) → are_real list ≡ true → eqb otherwise 0 ≡ false → eqb (symbol_among list otherwise octets) 0 ≡ false
among_real [] otherwise octets h o = o
among_real (s ∷ others) otherwise octets h o =
    let parts = both (not (eqb s.symbol 0)) (are_real others) h in
    cond_real (bytes_eq octets s.octets) s.symbol (symbol_among others otherwise octets) (not_zero (eqb s.symbol 0) parts.0) (among_real others otherwise octets parts.1 o)

word_real : (language : Language) (octets : List ℕ) → eqb (symbol_of_word language octets) 0 ≡ false
unfolding symbol_of_word words
word_real C706 octets = among_real words symbol.Name octets refl refl
word_real Windows octets = among_real words (symbol_among windows_words symbol.Name octets) octets refl (among_real windows_words symbol.Name octets refl refl)

symbol_real : (language : Language) (kind : TokenKind) (octets : List ℕ) → eqb (symbol_of language kind octets) 0 ≡ false
unfolding symbol_of
symbol_real language token.Word octets = word_real language octets
symbol_real language token.Uuid octets = refl
symbol_real language token.Number octets = refl
symbol_real language token.Char octets = refl
symbol_real language token.Str octets = refl
symbol_real language token.Mark octets = among_real marks symbol.Unknown octets refl refl

-- tokens as some grammar sees them, none of which is the end
pub all_real : (see : List ℕ → Token → Lexeme) → ((text : List ℕ) (t : Token) → eqb (see text t).symbol 0 ≡ false) → (text : List ℕ) (tokens : List Token) → IsText (map (see text) tokens)
all_real see real text [] i lt e = absurd (omega arith)
all_real see real text (t ∷ ts) zero lt e = clash (eqb (see text t).symbol 0) (ap (λ (l : Lexeme). eqb l.symbol 0) e) (real text t)
all_real see real text (t ∷ ts) (suc i) lt e = all_real see real text ts i (omega arith) e

pub lexemes_real : (language : Language) (lexed : Lexed) → IsText (lexemes language lexed)
lexemes_real language lexed = all_real (lexeme_of language) (λ text t. symbol_real language t.kind _) lexed.text lexed.tokens
