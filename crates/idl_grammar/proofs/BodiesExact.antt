-- What is in the bodies of types, but for types: enumerators, labels and discriminants are read exactly.
use Rattle.std.proofs.Common.{◌≡◌, ℕ, ◌+◌, ◌≤◌, true, false, List, [], ◌∷◌, length, refl, arith, ◌⊎◌, inl, inr, Option}
use Rattle.idl_grammar.specs.Text.{Text, is_in, Lifted, Rel, optional, ◌⊗◌, ◌⊳◌, ◌⊲◌, ◌∣◌}
use Rattle.idl_grammar.specs.ReadPhrases.{mark_read, end_with, option_read, behind_read}
use Rattle.idl_grammar.proofs.Exact.{Exact, HasPhrase, Part, pair_exact, turned_exact}
use Rattle.idl_grammar.proofs.Parts.{pair_has, turned_has, optional_has}
use Rattle.idl_grammar.proofs.Sequences.{stops, Begins, subset, disjoint, meets_first, ends_at, skip_exact, skip_has, skip_begins, end_exact, end_has, end_begins, pair_begins, option_exact}
use Rattle.idl_grammar.proofs.Sequences.{some_exact, some_has, some_begins, separated_exact, separated_has, bracketed_exact, bracketed_has, bracketed_begins}
use Rattle.idl_grammar.specs.declared.words.Spelling.{Spelling}
use Rattle.idl_grammar.specs.declared.types.SwitchType.{SwitchType}
use Rattle.idl_grammar.specs.declared.types.Discriminant.{Discriminant}
use Rattle.idl_grammar.specs.Symbols as symbol
use Rattle.idl_grammar.specs.Expressions.{names, placed, ident, outer}
use Rattle.idl_grammar.specs.Tree as tree
use Rattle.idl_grammar.specs.Tree.{Expr, Enumerator, Label}
use Rattle.idl_grammar.specs.ReadExpressions.{placed_read, ident_read, outer_read}
use Rattle.idl_grammar.specs.Grammar.{in_round, commas, switch_type, enumerator, enumerators, label, labels, discriminant, union_switch}
use Rattle.idl_grammar.specs.Reading.{in_round_read, commas_read, switch_type_read, enumerator_of, enumerator_read, enumerators_read, label_read, label_firsts, labels_read, discriminant_of}
use Rattle.idl_grammar.specs.Reading.{discriminant_read, maybe_name_read, union_switch_read}
use Rattle.idl_grammar.proofs.Combine.{branch_exact, branch_begins, placed_exact, placed_has, placed_begins, ident_exact, ident_has, ident_begins}
use Rattle.idl_grammar.proofs.OuterExact.{expr_ends, outer_exact, outer_has}
use Rattle.idl_grammar.proofs.SimpleExact.{simple_ends, switch_type_exact, switch_type_has}
use Rattle.idl_grammar.proofs.AttributesExact.{round_exact, round_has}

-- ## enumerators

-- what goes on with an enumerator, and with a list of them
unfoldable pub enumerator_ends : List ℕ
enumerator_ends = symbol.Equals ∷ expr_ends

unfoldable pub enumerators_ends : List ℕ
enumerators_ends = symbol.Comma ∷ enumerator_ends

equals_end : subset (symbol.Equals ∷ []) enumerator_ends ≡ true
unfolding enumerator_ends
equals_end = refl

values_end : subset expr_ends enumerator_ends ≡ true
unfolding enumerator_ends expr_ends
values_end = refl

comma_ends : subset (symbol.Comma ∷ []) enumerators_ends ≡ true
unfolding enumerators_ends
comma_ends = refl

enumerators_more : subset enumerator_ends enumerators_ends ≡ true
unfolding enumerators_ends enumerator_ends expr_ends
enumerators_more = refl

comma_apart : disjoint (symbol.Comma ∷ []) enumerator_ends ≡ true
unfolding enumerator_ends expr_ends
comma_apart = refl

enumerators_close : is_in enumerators_ends symbol.CloseCurly ≡ false
unfolding enumerators_ends enumerator_ends expr_ends
enumerators_close = refl

abbrev enumerator_parts : ℕ → Rel (Spelling × Option Expr)
enumerator_parts depth = ident false ⊗ optional (symbol.Equals ⊳ outer false depth)

enumerator_has : (depth : ℕ) → HasPhrase (enumerator depth)
unfolding enumerator
enumerator_has depth =
    turned_has (enumerator_parts depth) (enumerator depth) enumerator_of (λ lifted x i j a ph. ph) (pair_has _ _ (ident_has false) (optional_has (symbol.Equals ⊳ outer false depth)))

enumerator_exact : (nesting : ℕ) → 129 ≤ nesting → (t : Text) (depth i : ℕ) → depth ≤ 64 → i ≤ length t → Exact (enumerator depth) (stops enumerator_ends) t i (enumerator_read nesting t depth i)
unfolding enumerator enumerator_read
enumerator_exact nesting enough t depth i shallow in_text =
    turned_exact (enumerator_parts depth) (enumerator depth) enumerator_of (λ lifted x i j a ph. ph) (stops enumerator_ends) t i
    (λ lifted x e c j ph stop. record { part = (c.name, c.value); is = refl; phrase = ph }) _
    (pair_exact (ident false) (optional (symbol.Equals ⊳ outer false depth)) (stops []) (stops enumerator_ends) (λ lifted x m j b ph stop. refl) (optional_has (symbol.Equals ⊳ outer false depth)) t i
    (ident_read false t i) _ (ident_exact false (stops []) t i in_text)
    (λ name m found.
    option_exact (symbol.Equals ⊳ outer false depth) (symbol.Equals ∷ []) expr_ends enumerator_ends t m (skip_begins symbol.Equals (outer false depth)) equals_end values_end found.within
    (behind_read symbol.Equals t (outer_read nesting false t depth))
    (skip_exact symbol.Equals (outer false depth) (stops expr_ends) t m refl found.within (outer_has false depth) (outer_read nesting false t depth)
    (λ o after in_o. outer_exact nesting false t depth o enough shallow in_o))))

pub enumerators_exact : (nesting : ℕ) → 129 ≤ nesting → (t : Text) (depth i : ℕ) → i ≤ length t → Exact (enumerators depth) (stops []) t i (enumerators_read nesting t depth i)
unfolding enumerators enumerators_read
enumerators_exact nesting enough t depth i in_text =
    bracketed_exact depth symbol.OpenCurly symbol.CloseCurly (commas (enumerator (depth + 1))) refl refl (stops enumerators_ends) (stops []) t i in_text
    (ends_at symbol.CloseCurly enumerators_ends (stops []) enumerators_close) (separated_has symbol.Comma (enumerator (depth + 1)) (enumerator_has (depth + 1)))
    (commas_read t (enumerator_read nesting t (depth + 1)))
    (λ room m after in_m.
    separated_exact symbol.Comma (enumerator (depth + 1)) enumerator_ends enumerators_ends (enumerator_has (depth + 1)) refl comma_ends enumerators_more comma_apart t m
    (enumerator_read nesting t (depth + 1))
    (λ o based in_o. enumerator_exact nesting enough t (depth + 1) o (omega arith) in_o) m (omega arith) in_m)

pub enumerators_has : (depth : ℕ) → HasPhrase (enumerators depth)
unfolding enumerators
enumerators_has depth =
    bracketed_has depth symbol.OpenCurly symbol.CloseCurly (commas (enumerator (depth + 1))) refl refl (separated_has symbol.Comma (enumerator (depth + 1)) (enumerator_has (depth + 1)))

pub enumerators_begin : (depth : ℕ) → Begins (enumerators depth) (symbol.OpenCurly ∷ [])
unfolding enumerators
enumerators_begin depth = bracketed_begins depth symbol.OpenCurly symbol.CloseCurly (commas (enumerator (depth + 1))) refl refl

-- ## labels

colon_closes : is_in expr_ends symbol.Colon ≡ false
unfolding expr_ends
colon_closes = refl

module _ (depth : ℕ) where
  abbrev valued : Rel (ℕ × Expr)
  valued = placed symbol.Case ⊗ (outer false depth ⊲ symbol.Colon)

  abbrev defaults : Rel ℕ
  defaults = placed symbol.Default ⊲ symbol.Colon

  abbrev label_of : (ℕ × Expr) ⊎ ℕ → Label
  label_of (inl p) = tree.Value p.0 p.1
  label_of (inr at) = tree.Default at

  label_forth : (lifted : Lifted) (x : Text) (i j : ℕ) (a : (ℕ × Expr) ⊎ ℕ) → (valued ∣ defaults) a lifted x i j → label depth (label_of a) lifted x i j
  unfolding label
  label_forth lifted x i j (inl p) ph = ph
  label_forth lifted x i j (inr at) ph = ph

  label_back : (lifted : Lifted) (x : Text) (i j : ℕ) (c : Label) → label depth c lifted x i j → Part (valued ∣ defaults) (label depth) label_of lifted x i j c
  unfolding label
  label_back lifted x i j (tree.Value at e) ph = record { part = inl (at, e); is = refl; phrase = ph }
  label_back lifted x i j (tree.Default at) ph = record { part = inr at; is = refl; phrase = ph }

  valued_begins : Begins valued (symbol.Case ∷ [])
  valued_begins = pair_begins (placed symbol.Case) (outer false depth ⊲ symbol.Colon) (symbol.Case ∷ []) (placed_begins symbol.Case refl)

  defaults_begin : Begins defaults (symbol.Default ∷ [])
  defaults_begin = end_begins (placed symbol.Default) symbol.Colon (symbol.Default ∷ []) (placed_begins symbol.Default refl)

  label_begins : Begins (label depth) label_firsts
  label_begins = branch_begins valued defaults (label depth) label_of (symbol.Case ∷ []) (symbol.Default ∷ []) valued_begins defaults_begin refl label_forth label_back label_firsts refl refl

  label_has : HasPhrase (label depth)
  label_has =
      turned_has defaults (label depth) tree.Default (λ lifted x i j a ph. label_forth lifted x i j (inr a) ph) (end_has (placed symbol.Default) symbol.Colon refl (placed_has symbol.Default refl))

  label_exact : (nesting : ℕ) → 129 ≤ nesting → depth ≤ 64 → (t : Text) (i : ℕ) → i ≤ length t → Exact (label depth) (stops []) t i (label_read nesting t depth i)
  unfolding label_read
  label_exact nesting enough shallow t i in_text =
      branch_exact valued defaults (label depth) label_of (symbol.Case ∷ []) (symbol.Default ∷ []) valued_begins defaults_begin refl label_forth label_back (stops []) t i
      _ (end_with (placed_read symbol.Default t i) (λ o. mark_read symbol.Colon t o))
      (λ h.
      pair_exact (placed symbol.Case) (outer false depth ⊲ symbol.Colon) (stops []) (stops []) (λ lifted x m j b ph stop. refl)
      (end_has (outer false depth) symbol.Colon refl (outer_has false depth)) t i
      (placed_read symbol.Case t i) (λ at m. end_with (outer_read nesting false t depth m) (λ o. mark_read symbol.Colon t o)) (placed_exact symbol.Case refl (stops []) t i in_text)
      (λ at m found.
      end_exact (outer false depth) symbol.Colon expr_ends (stops []) t m refl colon_closes (outer_read nesting false t depth m) (outer_exact nesting false t depth m enough shallow found.within)))
      (end_exact (placed symbol.Default) symbol.Colon [] (stops []) t i refl refl (placed_read symbol.Default t i) (placed_exact symbol.Default refl (stops []) t i in_text))

  pub labels_exact : (nesting : ℕ) → 129 ≤ nesting → depth ≤ 64 → (t : Text) (i : ℕ) → i ≤ length t → Exact (labels depth) (stops label_firsts) t i (labels_read nesting t depth i)
  unfolding labels labels_read
  labels_exact nesting enough shallow t i in_text =
      some_exact (label depth) label_firsts [] label_firsts label_begins refl refl refl refl t i (label_read nesting t depth)
      (λ m based in_m. label_exact nesting enough shallow t m in_m) i (omega arith) in_text

  pub labels_has : HasPhrase (labels depth)
  unfolding labels
  labels_has = some_has (label depth) label_has

  pub labels_begin : Begins (labels depth) label_firsts
  unfolding labels
  labels_begin = some_begins (label depth) label_firsts label_begins

-- ## discriminants

abbrev discriminant_parts : Rel (SwitchType × Spelling)
discriminant_parts = switch_type false ⊗ ident false

names_after_simple : disjoint (names false) simple_ends ≡ true
unfolding names
names_after_simple = refl

discriminant_exact : (t : Text) (i : ℕ) → i ≤ length t → Exact discriminant (stops []) t i (discriminant_read t i)
unfolding discriminant discriminant_read
discriminant_exact t i in_text =
    turned_exact discriminant_parts discriminant discriminant_of (λ lifted x i j a ph. ph) (stops []) t i
    (λ lifted x e c j ph stop. record { part = (c.of, c.name); is = refl; phrase = ph }) _
    (pair_exact (switch_type false) (ident false) (stops simple_ends) (stops []) (meets_first (ident false) (names false) simple_ends (stops []) (ident_begins false) names_after_simple)
    (ident_has false) t i
    (switch_type_read false t i) (λ s m. ident_read false t m) (switch_type_exact false t i in_text) (λ s m found. ident_exact false (stops []) t m found.within))

discriminant_has : HasPhrase discriminant
unfolding discriminant
discriminant_has = turned_has discriminant_parts discriminant discriminant_of (λ lifted x i j a ph. ph) (pair_has _ _ (switch_type_has false) (ident_has false))

names_same : subset (names false) (names false) ≡ true
unfolding names
names_same = refl

abbrev switch_parts : ℕ → Rel (Discriminant × Option Spelling)
switch_parts depth = in_round depth discriminant ⊗ optional (ident false)

switch_parts_has : (depth : ℕ) → HasPhrase (switch_parts depth)
switch_parts_has depth = pair_has _ _ (round_has depth discriminant [] discriminant_has refl) (optional_has (ident false))

pub union_switch_exact : (t : Text) (depth i : ℕ) → i ≤ length t → Exact (union_switch depth) (stops (names false)) t i (union_switch_read t depth i)
unfolding union_switch union_switch_read maybe_name_read
union_switch_exact t depth i in_text =
    skip_exact symbol.Switch (switch_parts depth) (stops (names false)) t i refl in_text (switch_parts_has depth) _
    (λ m after in_m.
    pair_exact (in_round depth discriminant) (optional (ident false)) (stops []) (stops (names false)) (λ lifted x m j b ph stop. refl) (optional_has (ident false)) t m
    (in_round_read depth t (discriminant_read t) m) (λ d o. option_read (names false) t (ident_read false t) o)
    (round_exact depth discriminant [] discriminant_has refl t m in_m (discriminant_read t) (λ room o past in_o. discriminant_exact t o in_o))
    (λ d o found. option_exact (ident false) (names false) [] (names false) t o (ident_begins false) names_same refl found.within (ident_read false t) (ident_exact false (stops []) t o found.within)))

pub union_switch_has : (depth : ℕ) → HasPhrase (union_switch depth)
unfolding union_switch
union_switch_has depth = skip_has symbol.Switch (switch_parts depth) refl (switch_parts_has depth)

pub union_switch_begins : (depth : ℕ) → Begins (union_switch depth) (symbol.Switch ∷ [])
unfolding union_switch
union_switch_begins depth = skip_begins symbol.Switch (switch_parts depth)
