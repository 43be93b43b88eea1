-- One more token is taken over.
use Rattle.std.proofs.Common.{◌≡◌, ℕ, zero, suc, ◌+◌, ◌<◌, ◌≤◌, length, refl, sym, ap, arith, ◌∙◌, List, [], ◌∷◌, ◌++◌, map, take, slice_get, slice_range, Some, None, add-one, option_map, unwrap_or}
use Rattle.idl_grammar.specs.declared.language.Language.{Language}
use Rattle.idl_grammar.specs.Text.{Lexeme, symbol_of, lexeme_of}
use Rattle.idl_lexer.specs.declared.tokens.TokenKind.{TokenKind}
use Rattle.idl_lexer.specs.declared.tokens.Token.{Token}
use Rattle.idl_lexer.specs.Verdict.{Lexed, IsKindOf, IsTextOf, place_of}

abbrev made : Language → TokenKind → ℕ → List ℕ → Lexeme
made language kind at octets = record { symbol = symbol_of language kind octets; at = at; octets = octets }

module _ (language : Language) (text : List ℕ) (n : ℕ) (kind : TokenKind) (at : ℕ) (octets : List ℕ) where
  one_more_of : (ts : List Token) (k : ℕ) → option_map (λ (t : Token). t.kind) (slice_get ts k) ≡ Some kind
      → option_map (λ (t : Token). slice_range text t.from t.to) (slice_get ts k) ≡ Some octets
      → at ≡ unwrap_or (option_map (λ (t : Token). t.from) (slice_get ts k)) n
      → map (lexeme_of language text) (take (suc k) ts) ≡ map (lexeme_of language text) (take k ts) ++ made language kind at octets ∷ []
  one_more_of [] k a b c = absurd (cc)
  one_more_of (t ∷ ts) zero a b c =
      let d : made language t.kind t.from (slice_range text t.from t.to) ≡ made language kind at octets = cc in
      ap (λ (l : Lexeme). l ∷ []) d
  one_more_of (t ∷ ts) (suc k) a b c = ap (λ (ls : List Lexeme). lexeme_of language text t ∷ ls) (one_more_of ts k a b c)

pub one_more : (language : Language) (lexed : Lexed) (k symbol at : ℕ) (kind : TokenKind) (octets : List ℕ) → IsKindOf lexed k kind → IsTextOf lexed k octets → at ≡ place_of lexed k
    → symbol ≡ symbol_of language kind octets
    → map (lexeme_of language lexed.text) (take (k + 1) lexed.tokens) ≡ map (lexeme_of language lexed.text) (take k lexed.tokens) ++ (record { symbol = symbol; at = at; octets = octets }) ∷ []
one_more language lexed k symbol at kind octets a b c e = rw (add-one, e) (one_more_of language lexed.text (length lexed.text) kind at octets lexed.tokens k a b c)
