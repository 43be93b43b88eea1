-- Attributes are read exactly.
use Rattle.std.proofs.Common.{◌≡◌, ℕ, ◌+◌, ◌<◌, ◌≤◌, Bool, true, false, List, [], ◌∷◌, length, refl, arith, Option}
use Rattle.idl_grammar.specs.Text.{Text, is, is_in, Rel, optional, ◌⊗◌, ◌⊳◌}
use Rattle.idl_grammar.specs.ReadPhrases.{Read, behind_read}
use Rattle.idl_grammar.proofs.Exact.{Exact, HasPhrase, pair_exact, turned_exact}
use Rattle.idl_grammar.proofs.Parts.{pair_has, turned_has, optional_has}
use Rattle.idl_grammar.proofs.Sequences.{stops, Begins, subset, disjoint, meets_first, ends_at, skip_exact, skip_has, skip_begins, option_exact, separated_exact, separated_has, bracketed_exact}
use Rattle.idl_grammar.proofs.Sequences.{bracketed_has}
use Rattle.idl_grammar.specs.declared.words.Spelling.{Spelling}
use Rattle.idl_grammar.specs.declared.attributes.PointerClass.TheVariants as class
use Rattle.idl_grammar.specs.declared.attributes.VariableWord.TheVariants as variable
use Rattle.idl_grammar.specs.Symbols as symbol
use Rattle.idl_grammar.specs.Expressions.{names, spelled, ident, outer}
use Rattle.idl_grammar.specs.ReadExpressions.{spelled_read, ident_read, outer_read}
use Rattle.idl_grammar.specs.Grammar.{flag, in_round, commas, switch_type, class_words, pointer_class, variable_words, variable_word, variable_name}
use Rattle.idl_grammar.specs.Reading.{flag_read, in_round_read, commas_read, switch_type_read, pointer_class_read, variable_word_read, variable_of, variable_name_read, class_symbols, variable_symbols}
use Rattle.idl_grammar.specs.Reading.{uuid_read, version_numbers_read, version_read, endpoint_read, pointer_default_read, variable_read, switch_attribute_read, case_attribute_read}
use Rattle.idl_grammar.proofs.Combine.{flag_exact, flag_has, spelled_exact, spelled_has, one_of_exact, one_of_has, ident_exact, ident_has, ident_begins}
use Rattle.idl_grammar.proofs.OuterExact.{expr_ends, outer_exact, outer_has}
use Rattle.idl_grammar.proofs.SimpleExact.{simple_ends, switch_type_exact, switch_type_has}

-- ## in brackets

-- what is in round brackets, after a word
module _ {A : Type 0} (depth : ℕ) (P : Rel A) (ends : List ℕ) (has : HasPhrase P) (closes : is_in ends symbol.CloseRound ≡ false) where
  pub round_exact : (t : Text) (i : ℕ) → i ≤ length t → (item : ℕ → Read A) → (depth < 64 → (m : ℕ) → i < m → m ≤ length t → Exact P (stops ends) t m (item m))
      → Exact (in_round depth P) (stops []) t i (in_round_read depth t item i)
  round_exact t i in_text item exact =
      bracketed_exact depth symbol.OpenRound symbol.CloseRound P refl refl (stops ends) (stops []) t i in_text (ends_at symbol.CloseRound ends (stops []) closes) has item exact

  pub round_has : HasPhrase (in_round depth P)
  round_has = bracketed_has depth symbol.OpenRound symbol.CloseRound P refl refl has

  module _ (s : ℕ) (real : is 0 s ≡ false) where
    pub word_round_exact : (t : Text) (i : ℕ) → i ≤ length t → (item : ℕ → Read A) → (depth < 64 → (m : ℕ) → i < m → m ≤ length t → Exact P (stops ends) t m (item m))
        → Exact (s ⊳ in_round depth P) (stops []) t i (behind_read s t (in_round_read depth t item) i)
    word_round_exact t i in_text item exact =
        skip_exact s (in_round depth P) (stops []) t i real in_text round_has (in_round_read depth t item)
        (λ m after in_m. round_exact t m in_m item (λ room o past in_o. exact room o (omega arith) in_o))

    pub word_round_has : HasPhrase (s ⊳ in_round depth P)
    word_round_has = skip_has s (in_round depth P) real round_has

-- ## the words

pub pointer_class_exact : (ends : List ℕ) (t : Text) (i : ℕ) → i ≤ length t → Exact pointer_class (stops ends) t i (pointer_class_read t i)
unfolding pointer_class pointer_class_read
pointer_class_exact ends t i in_text = one_of_exact class.Reference class_words symbol.Ref refl refl (stops ends) t i in_text

pub pointer_class_has : HasPhrase pointer_class
unfolding pointer_class
pointer_class_has = one_of_has class.Reference class_words symbol.Ref refl refl

pub pointer_class_begins : Begins pointer_class class_symbols
unfolding pointer_class
pointer_class_begins lifted x i j c ph = ph.0

pub variable_word_exact : (ends : List ℕ) (t : Text) (i : ℕ) → i ≤ length t → Exact variable_word (stops ends) t i (variable_word_read t i)
unfolding variable_word variable_word_read
variable_word_exact ends t i in_text = one_of_exact variable.SizeIs variable_words symbol.SizeIs refl refl (stops ends) t i in_text

pub variable_word_begins : Begins variable_word variable_symbols
unfolding variable_word
variable_word_begins lifted x i j c ph = ph.0

pub variable_word_has : HasPhrase variable_word
unfolding variable_word
variable_word_has = one_of_has variable.SizeIs variable_words symbol.SizeIs refl refl

pub star_not_name : (inside : Bool) → disjoint (names inside) (symbol.Star ∷ []) ≡ true
unfolding names
star_not_name true = refl
star_not_name false = refl

pub variable_name_exact : (t : Text) (i : ℕ) → i ≤ length t → Exact variable_name (stops []) t i (variable_name_read t i)
unfolding variable_name variable_name_read
variable_name_exact t i in_text =
    turned_exact (flag symbol.Star ⊗ ident true) variable_name variable_of (λ lifted x i j a ph. ph) (stops []) t i
    (λ lifted x e c j ph stop. record { part = (c.star, c.name); is = refl; phrase = ph }) _
    (pair_exact (flag symbol.Star) (ident true) (stops (symbol.Star ∷ [])) (stops [])
    (meets_first (ident true) (names true) (symbol.Star ∷ []) (stops []) (ident_begins true) (star_not_name true)) (ident_has true) t i
    (flag_read symbol.Star t i) (λ s m. ident_read true t m)
    (flag_exact symbol.Star refl (symbol.Star ∷ []) refl t i in_text)
    (λ s m found. ident_exact true (stops []) t m found.within))

pub variable_name_has : HasPhrase variable_name
unfolding variable_name
variable_name_has = turned_has (flag symbol.Star ⊗ ident true) variable_name variable_of (λ lifted x i j a ph. ph) (pair_has _ _ (flag_has symbol.Star refl) (ident_has true))

-- ## each attribute with brackets

pub uuid_exact : (depth : ℕ) (t : Text) (i : ℕ) → i ≤ length t → Exact (symbol.Uuid ⊳ in_round depth (spelled symbol.UuidValue)) (stops []) t i (uuid_read t depth i)
unfolding uuid_read
uuid_exact depth t i in_text =
    word_round_exact depth (spelled symbol.UuidValue) [] (spelled_has symbol.UuidValue refl) refl symbol.Uuid refl t i in_text (spelled_read symbol.UuidValue t)
    (λ room m after in_m. spelled_exact symbol.UuidValue refl (stops []) t m in_m)

abbrev pub version_numbers : Rel (Spelling × Option Spelling)
version_numbers = spelled symbol.Number ⊗ optional (symbol.Dot ⊳ spelled symbol.Number)

pub version_numbers_has : HasPhrase version_numbers
version_numbers_has = pair_has _ _ (spelled_has symbol.Number refl) (optional_has (symbol.Dot ⊳ spelled symbol.Number))

pub version_numbers_exact : (t : Text) (i : ℕ) → i ≤ length t → Exact version_numbers (stops (symbol.Dot ∷ [])) t i (version_numbers_read t i)
unfolding version_numbers_read
version_numbers_exact t i in_text =
    pair_exact (spelled symbol.Number) (optional (symbol.Dot ⊳ spelled symbol.Number)) (stops []) (stops (symbol.Dot ∷ [])) (λ lifted x m j b ph stop. refl)
    (optional_has (symbol.Dot ⊳ spelled symbol.Number)) t i
    (spelled_read symbol.Number t i) _ (spelled_exact symbol.Number refl (stops []) t i in_text)
    (λ major m found.
    option_exact (symbol.Dot ⊳ spelled symbol.Number) (symbol.Dot ∷ []) [] (symbol.Dot ∷ []) t m (skip_begins symbol.Dot (spelled symbol.Number)) refl refl found.within
    (behind_read symbol.Dot t (spelled_read symbol.Number t))
    (skip_exact symbol.Dot (spelled symbol.Number) (stops []) t m refl found.within (spelled_has symbol.Number refl) (spelled_read symbol.Number t)
    (λ o after in_o. spelled_exact symbol.Number refl (stops []) t o in_o)))

pub version_exact : (depth : ℕ) (t : Text) (i : ℕ) → i ≤ length t → Exact (symbol.Version ⊳ in_round depth version_numbers) (stops []) t i (version_read t depth i)
unfolding version_read
version_exact depth t i in_text =
    word_round_exact depth version_numbers (symbol.Dot ∷ []) version_numbers_has refl symbol.Version refl t i in_text (version_numbers_read t)
    (λ room m after in_m. version_numbers_exact t m in_m)

pub endpoint_exact : (depth : ℕ) (t : Text) (i : ℕ) → i ≤ length t → Exact (symbol.Endpoint ⊳ in_round depth (commas (spelled symbol.Quoted))) (stops []) t i (endpoint_read t depth i)
unfolding endpoint_read
endpoint_exact depth t i in_text =
    word_round_exact depth (commas (spelled symbol.Quoted)) (symbol.Comma ∷ [])
    (separated_has symbol.Comma (spelled symbol.Quoted) (spelled_has symbol.Quoted refl)) refl symbol.Endpoint refl t i in_text
    (commas_read t (spelled_read symbol.Quoted t))
    (λ room m after in_m.
    separated_exact symbol.Comma (spelled symbol.Quoted) [] (symbol.Comma ∷ []) (spelled_has symbol.Quoted refl) refl refl refl refl t m (spelled_read symbol.Quoted t)
    (λ o based in_o. spelled_exact symbol.Quoted refl (stops []) t o in_o) m (omega arith) in_m)

pub pointer_default_exact : (depth : ℕ) (t : Text) (i : ℕ) → i ≤ length t → Exact (symbol.PointerDefault ⊳ in_round depth pointer_class) (stops []) t i (pointer_default_read t depth i)
unfolding pointer_default_read
pointer_default_exact depth t i in_text =
    word_round_exact depth pointer_class [] pointer_class_has refl symbol.PointerDefault refl t i in_text (pointer_class_read t) (λ room m after in_m. pointer_class_exact [] t m in_m)

pub variable_exact : (depth : ℕ) (t : Text) (i : ℕ) → i ≤ length t → Exact (variable_word ⊗ in_round depth variable_name) (stops []) t i (variable_read t depth i)
unfolding variable_read
variable_exact depth t i in_text =
    pair_exact variable_word (in_round depth variable_name) (stops []) (stops []) (λ lifted x m j b ph stop. refl) (round_has depth variable_name [] variable_name_has refl) t i
    (variable_word_read t i) _ (variable_word_exact [] t i in_text)
    (λ w m found. round_exact depth variable_name [] variable_name_has refl t m found.within (variable_name_read t) (λ room o after in_o. variable_name_exact t o in_o))

pub switch_attribute_exact : (depth : ℕ) (t : Text) (i : ℕ) → i ≤ length t → Exact (symbol.SwitchType ⊳ in_round depth (switch_type true)) (stops []) t i (switch_attribute_read t depth i)
unfolding switch_attribute_read
switch_attribute_exact depth t i in_text =
    word_round_exact depth (switch_type true) simple_ends (switch_type_has true) refl symbol.SwitchType refl t i in_text (switch_type_read true t)
    (λ room m after in_m. switch_type_exact true t m in_m)

-- an expression in a list goes on with a comma
unfoldable pub values_ends : List ℕ
values_ends = symbol.Comma ∷ expr_ends

pub values_close : is_in values_ends symbol.CloseRound ≡ false
unfolding values_ends expr_ends
values_close = refl

pub values_comma : subset (symbol.Comma ∷ []) values_ends ≡ true
unfolding values_ends
values_comma = refl

pub values_more : subset expr_ends values_ends ≡ true
unfolding values_ends expr_ends
values_more = refl

pub comma_apart : disjoint (symbol.Comma ∷ []) expr_ends ≡ true
unfolding expr_ends
comma_apart = refl

pub case_attribute_exact : (nesting depth : ℕ) → 129 ≤ nesting → (t : Text) (i : ℕ) → i ≤ length t
    → Exact (symbol.Case ⊳ in_round depth (commas (outer true (depth + 1)))) (stops []) t i (case_attribute_read nesting t depth i)
unfolding case_attribute_read
case_attribute_exact nesting depth enough t i in_text =
    word_round_exact depth (commas (outer true (depth + 1))) values_ends (separated_has symbol.Comma (outer true (depth + 1)) (outer_has true (depth + 1))) values_close symbol.Case refl t i in_text
    (commas_read t (outer_read nesting true t (depth + 1)))
    (λ room m after in_m.
    separated_exact symbol.Comma (outer true (depth + 1)) expr_ends values_ends (outer_has true (depth + 1)) refl values_comma values_more comma_apart t m (outer_read nesting true t (depth + 1))
    (λ o based in_o. outer_exact nesting true t (depth + 1) o enough (omega arith) in_o) m (omega arith) in_m)
