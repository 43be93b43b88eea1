-- A text with `string` in the place of the words has none of them, and begins as before where there are none.
use Rattle.std.proofs.Common.{◌≡◌, ◌∙◌, ℕ, zero, suc, Bool, true, false, cond, List, [], ◌∷◌, ◌++◌, map, take, refl, sym, ap, ap₂}
use Rattle.std.proofs.lemmas.List.{take-map, map-append}
use Rattle.idl_grammar.specs.Symbols.{windows_symbols}
use Rattle.idl_grammar.specs.Symbols as symbol
use Rattle.idl_grammar.specs.Text.{Lexeme, Text, the_end, symbol_at, is_in}
use Rattle.idl_grammar.specs.Answers.{begins}
use Rattle.idl_words.specs.Replaced.{IsOfBoth, symbol_with_string, lexeme_with_string, text_with_string}

not_left : (s : ℕ) → is_in windows_symbols (symbol_with_string s) ≡ false
not_left s = by_case (is_in windows_symbols s) refl where
  by_case : (b : Bool) → is_in windows_symbols s ≡ b → is_in windows_symbols (cond b symbol.String s) ≡ false
  by_case true e = refl
  by_case false e = e

pub none_left : (x : Text) (k : ℕ) → is_in windows_symbols (symbol_at (text_with_string x) k) ≡ false
none_left [] k = refl
none_left (l ∷ x) zero = not_left l.symbol
none_left (l ∷ x) (suc k) = none_left x k

same_lexeme : (l : Lexeme) → is_in windows_symbols l.symbol ≡ false → lexeme_with_string l ≡ l
same_lexeme l h = ap (λ (b : Bool). record { symbol = cond b symbol.String l.symbol; at = l.at; octets = l.octets }) h

same_text : (t : Text) → IsOfBoth t → text_with_string t ≡ t
same_text [] both = refl
same_text (l ∷ t) both = ap₂ (λ (a : Lexeme) (b : Text). a ∷ b) (same_lexeme l (both 0)) (same_text t (λ k. both (suc k)))

ended : (x : Text) → text_with_string x ++ the_end ∷ [] ≡ text_with_string (x ++ the_end ∷ [])
ended x = sym (map-append lexeme_with_string x (the_end ∷ []))

pub same_beginning : (t x : Text) (n : ℕ) → IsOfBoth t → begins t n x → begins t n (text_with_string x)
same_beginning t x n both h =
    ap (take n) (ended x) ∙ take-map lexeme_with_string n (x ++ the_end ∷ []) ∙ ap text_with_string h ∙ sym (take-map lexeme_with_string n (t ++ the_end ∷ []))
    ∙ ap (take n) (sym (ended t)) ∙ ap (λ (l : Text). take n (l ++ the_end ∷ [])) (same_text t both)
