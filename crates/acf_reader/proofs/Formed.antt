-- The words of an attribute configuration file are identifiers, and its UUIDs have their form, as those of a file of IDL with the same text.
use Rattle.std.proofs.Common.{◌≡◌, ℕ, zero, suc, Bool, true, false, eqb, not, List, [], ◌∷◌, map, refl, sym, ap, subst, ◌∙◌}
use Rattle.std.specs.List.{list_all}
use Rattle.nd_base.specs.Text.{is_identifier}
use Rattle.idl_grammar.specs.Text.{Lexeme, Text, lexeme_at, symbol_at, is_in, symbol_among, no_words, IsFormed}
use Rattle.idl_grammar.proofs.Sequences.{disjoint, apart}
use Rattle.idl_lexer.specs.Pieces.{IsUuid}
use Rattle.idl_grammar.specs.Symbols as symbol
use Rattle.idl_grammar.proofs.Formed.{among_passes, is_no_uuid, no_uuid}
use Rattle.acf_reader.specs.Symbols.{own_words}
use Rattle.acf_reader.specs.FromIdl.{names_of_idl, symbol_from, lexeme_from}
use Rattle.acf_reader.proofs.FromIdl.{kept, looked_up}

names_are_words : disjoint names_of_idl no_words ≡ true
unfolding names_of_idl no_words
names_are_words = refl

end_kept : symbol_from 0 [] ≡ 0
unfolding symbol_from names_of_idl
end_kept = refl

at_from : (x : Text) (i : ℕ) → lexeme_at (map lexeme_from x) i ≡ lexeme_from (lexeme_at x i)
at_from [] i = ap (λ (s : ℕ). record { symbol = s; at = 0; octets = [] }) (sym end_kept)
at_from (l ∷ x) zero = refl
at_from (l ∷ x) (suc i) = at_from x i

-- what is a word here is one in IDL
word_in_idl : (s : ℕ) (octets : List ℕ) → is_in no_words (symbol_from s octets) ≡ false → is_in no_words s ≡ false
word_in_idl s octets h = by_case (is_in names_of_idl s) refl where
  by_case : (b : Bool) → is_in names_of_idl s ≡ b → is_in no_words s ≡ false
  by_case true e = apart names_of_idl no_words s names_are_words e
  by_case false e = ap (is_in no_words) (sym (kept octets s e)) ∙ h

-- and so is a UUID
uuid_in_idl : (s : ℕ) (octets : List ℕ) → symbol_from s octets ≡ symbol.UuidValue → s ≡ symbol.UuidValue
uuid_in_idl s octets h = by_case (is_in names_of_idl s) refl where
  by_case : (b : Bool) → is_in names_of_idl s ≡ b → s ≡ symbol.UuidValue
  by_case true e =
      no_uuid (symbol_among own_words symbol.Name octets) (among_passes is_no_uuid own_words symbol.Name octets refl refl) (sym (looked_up octets s e) ∙ h)
  by_case false e = sym (kept octets s e) ∙ h

pub formed_from : (x : Text) → IsFormed x → IsFormed (map lexeme_from x)
formed_from x f = record { word = word_at; uuid = uuid_at } where
  word_at : (i : ℕ) → is_in no_words (symbol_at (map lexeme_from x) i) ≡ false → is_identifier (lexeme_at (map lexeme_from x) i).octets ≡ true
  word_at i h =
      let l = lexeme_at x i in
      ap (λ (m : Lexeme). is_identifier m.octets) (at_from x i)
      ∙ f.word i (word_in_idl l.symbol l.octets (ap (λ (m : Lexeme). is_in no_words m.symbol) (sym (at_from x i)) ∙ h))

  uuid_at : (i : ℕ) → symbol_at (map lexeme_from x) i ≡ symbol.UuidValue → IsUuid (lexeme_at (map lexeme_from x) i).octets
  uuid_at i h =
      let l = lexeme_at x i in
      subst (λ (m : Lexeme). IsUuid m.octets) (sym (at_from x i))
      (f.uuid i (uuid_in_idl l.symbol l.octets (ap (λ (m : Lexeme). m.symbol) (sym (at_from x i)) ∙ h)))
