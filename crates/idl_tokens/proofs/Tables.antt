-- A search in a table of words or marks.
use Rattle.std.proofs.Common.{◌≡◌, ℕ, zero, suc, ◌+◌, ◌<◌, ◌≤◌, Bool, true, false, cond, length, refl, sym, ap, subst, arith, add-one, ◌∙◌, List, [], ◌∷◌, map, drop, slice_index_or}
use Rattle.std.specs.Str.{bytes_eq}
use Rattle.idl_grammar.specs.Text.{symbol_among}
use Rattle.idl_tokens.specs.declared.words.Entry.{Entry}
use Rattle.idl_tokens.specs.Lexemes.{seen_entry}

pub drop_here : {A : Type 0} (table : List A) (i : ℕ) (d : A) → i < length table → drop i table ≡ slice_index_or table i d ∷ drop (suc i) table
drop_here [] i d h = absurd (omega (arith, h))
drop_here (e ∷ es) zero d h = refl
drop_here (e ∷ es) (suc i) d h = drop_here es i d (omega (arith, h))

module _ (table : List Entry) (i : ℕ) (d : Entry) (otherwise : ℕ) (octets : List ℕ) (h : i < length table) where
  abbrev here : Bool → ℕ
  here b = cond b (slice_index_or table i d).symbol (symbol_among (map seen_entry (drop (i + 1) table)) otherwise octets)

  opened : symbol_among (map seen_entry (drop i table)) otherwise octets ≡ here (bytes_eq octets (slice_index_or table i d).octets.now)
  opened = rw add-one (ap (λ (es : List Entry). symbol_among (map seen_entry es) otherwise octets) (drop_here table i d h))

  pub first_is : bytes_eq octets (slice_index_or table i d).octets.now ≡ true → symbol_among (map seen_entry (drop i table)) otherwise octets ≡ (slice_index_or table i d).symbol
  first_is e = opened ∙ ap here e

  pub first_is_not : bytes_eq octets (slice_index_or table i d).octets.now ≡ false
      → symbol_among (map seen_entry (drop i table)) otherwise octets ≡ symbol_among (map seen_entry (drop (i + 1) table)) otherwise octets
  first_is_not e = opened ∙ ap here e

pub none_left : (table : List Entry) (i : ℕ) (otherwise : ℕ) (octets : List ℕ) → length table ≤ i → symbol_among (map seen_entry (drop i table)) otherwise octets ≡ otherwise
none_left [] zero otherwise octets h = refl
none_left [] (suc i) otherwise octets h = refl
none_left (e ∷ es) zero otherwise octets h = absurd (omega (arith, h))
none_left (e ∷ es) (suc i) otherwise octets h = none_left es i otherwise octets (omega (arith, h))
