-- Attributes are read exactly.
use Rattle.std.proofs.Common.{◌≡◌, ℕ, ◌+◌, ◌≤◌, true, List, [], ◌∷◌, length, refl, sym, ap, subst, arith, inl, inr}
use Rattle.idl_grammar.specs.Text.{Lexeme, Text, symbol_at, is, is_in, Ban, Lifted, Rel, optional, bracketed, located, made, ◌⊗◌, ◌⊳◌}
use Rattle.idl_grammar.specs.ReadPhrases.{to_unit, mark_read}
use Rattle.idl_grammar.proofs.Exact.{Agrees, Exact, HasPhrase, pair_exact, turned_exact}
use Rattle.idl_grammar.proofs.Parts.{marked, mark_exact, mark_has, pair_has, turned_has, ruled_exact, of_symbol}
use Rattle.idl_grammar.proofs.Sequences.{stops, Begins, BeginsOr, disjoint, ends_at, skip_begins, option_exact, option_begins, separated_exact, separated_has, bracketed_exact, bracketed_has}
use Rattle.idl_grammar.proofs.Sequences.{bracketed_begins, located_exact, located_has, made_exact, made_begins}
use Rattle.idl_grammar.specs.declared.words.Spelling.{Spelling}
use Rattle.idl_grammar.specs.Symbols as symbol
use Rattle.idl_grammar.specs.Grammar.{one_of, in_round, commas, is_banned_attribute}
use Rattle.idl_grammar.specs.Reading.{commas_read}
use Rattle.idl_grammar.proofs.Combine.{changed_exact, one_of_exact, one_word, each_meant, either, either_exact, either_begins, mark_begins}
use Rattle.idl_grammar.proofs.AttributesExact.{word_round_exact}
use Rattle.acf_reader.specs.declared.tree.HandleType.{HandleType}
use Rattle.acf_reader.specs.declared.tree.HandleType.TheVariants as handle
use Rattle.acf_reader.specs.declared.tree.AttributeKind.{AttributeKind}
use Rattle.acf_reader.specs.declared.tree.AttributeKind.TheVariants as kind
use Rattle.acf_reader.specs.declared.tree.Attribute.{Attribute}
use Rattle.acf_reader.specs.Symbols as word
use Rattle.acf_reader.specs.Symbols.{names}
use Rattle.acf_reader.specs.Grammar.{ident, handle_type, code, attribute_kind, attribute, attributes}
use Rattle.acf_reader.specs.Reading.{ident_read, handle_type_read, variable_read, implicit_handle_read, one_word_attributes, one_word_symbols, code_symbols, code_read, attribute_kind_read}
use Rattle.acf_reader.specs.Reading.{attribute_of, attribute_read, attributes_of, attributes_read, maybe_attributes_read}
use Rattle.acf_reader.proofs.NamesExact.{ident_exact, ident_has, ident_begins}

-- ## the variable of `implicit_handle`

abbrev handles : Rel HandleType
handles = made (λ (u : Unit {0}). handle.Handle) (marked symbol.HandleT)

abbrev named_types : Rel HandleType
named_types = made handle.Name (ident true)

handles_begin : Begins handles (symbol.HandleT ∷ [])
handles_begin = made_begins (λ (u : Unit {0}). handle.Handle) (marked symbol.HandleT) (symbol.HandleT ∷ []) (mark_begins symbol.HandleT refl)

named_begin : Begins named_types (names true)
named_begin = made_begins handle.Name (ident true) (names true) (ident_begins true)

no_handle : disjoint (names true) (symbol.HandleT ∷ []) ≡ true
unfolding names
no_handle = refl

handle_forth : (lifted : Lifted) (x : Text) (i j : ℕ) (c : HandleType) → either handles named_types c lifted x i j → handle_type c lifted x i j
unfolding handle_type
handle_forth lifted x i j c (inl ph) = subst (λ (v : HandleType). handle_type v lifted x i j) (sym ph.1) ph.2
handle_forth lifted x i j c (inr ph) = subst (λ (v : HandleType). handle_type v lifted x i j) (sym ph.1) ph.2

handle_back : (lifted : Lifted) (x : Text) (i j : ℕ) (c : HandleType) → handle_type c lifted x i j → either handles named_types c lifted x i j
unfolding handle_type
handle_back lifted x i j handle.Handle ph = inl (tt, refl, ph)
handle_back lifted x i j (handle.Name n) ph = inr (n, refl, ph)

handle_type_exact : (t : Text) (i : ℕ) → i ≤ length t → Exact handle_type (stops []) t i (handle_type_read t i)
unfolding handle_type_read
handle_type_exact t i in_text =
    changed_exact (either handles named_types) handle_type handle_forth (stops []) t i (λ lifted x e c j ph stop. handle_back lifted x i j c ph) _
    (either_exact handles named_types (symbol.HandleT ∷ []) (names true) handles_begin named_begin no_handle (stops []) t i _ _
    (λ h. made_exact (λ (u : Unit {0}). handle.Handle) (marked symbol.HandleT) (stops []) t i (mark_read symbol.HandleT t i) (mark_exact symbol.HandleT refl (stops []) t i in_text))
    (made_exact handle.Name (ident true) (stops []) t i (ident_read true t i) (ident_exact true (stops []) t i in_text)))

handle_type_has : HasPhrase handle_type
handle_type_has = turned_has (ident true) handle_type handle.Name (λ lifted x i j a ph. handle_forth lifted x i j (handle.Name a) (inr (a, refl, ph))) (ident_has true)

abbrev variable : Rel (HandleType × Spelling)
variable = handle_type ⊗ ident true

variable_exact : (t : Text) (i : ℕ) → i ≤ length t → Exact variable (stops []) t i (variable_read t i)
unfolding variable_read
variable_exact t i in_text =
    pair_exact handle_type (ident true) (stops []) (stops []) (λ lifted x m j b ph stop. refl) (ident_has true) t i (handle_type_read t i) (λ c m. ident_read true t m) (handle_type_exact t i in_text)
    (λ c m found. ident_exact true (stops []) t m found.within)

variable_has : HasPhrase variable
variable_has = pair_has handle_type (ident true) handle_type_has (ident_has true)

-- ## the kinds of attributes

module _ (depth : ℕ) where
  abbrev implicit_of : HandleType × Spelling → AttributeKind
  implicit_of p = kind.ImplicitHandle p.0 p.1

  abbrev implicits : Rel AttributeKind
  implicits = made implicit_of (word.ImplicitHandle ⊳ in_round depth variable)

  implicits_begin : Begins implicits (word.ImplicitHandle ∷ [])
  implicits_begin = made_begins implicit_of (word.ImplicitHandle ⊳ in_round depth variable) (word.ImplicitHandle ∷ []) (skip_begins word.ImplicitHandle (in_round depth variable))

  implicit_exact : (t : Text) (i : ℕ) → i ≤ length t → Exact (word.ImplicitHandle ⊳ in_round depth variable) (stops []) t i (implicit_handle_read t depth i)
  unfolding implicit_handle_read
  implicit_exact t i in_text =
      word_round_exact depth variable [] variable_has refl word.ImplicitHandle refl t i in_text (variable_read t) (λ room m after in_m. variable_exact t m in_m)

  abbrev one_words : Rel AttributeKind
  one_words = one_of kind.Heap one_word_attributes

  one_words_begin : Begins one_words one_word_symbols
  one_words_begin lifted x i j c ph = ph.0

  abbrev codes : Rel AttributeKind
  codes = made (λ (u : Unit {0}). kind.Code) code

  codes_begin : Begins codes code_symbols
  codes_begin lifted x i j c ph = ph.2.1.0

  banned_depends : (t x : Text) (i : ℕ) → Agrees t x (i + 1) → is_banned_attribute x i ≡ is_banned_attribute t i
  banned_depends t x i agrees = ap (λ (l : Lexeme). is l.symbol symbol.BannedAttribute) (agrees i (omega arith))

  code_exact : (t : Text) (i : ℕ) → i ≤ length t → Exact code (stops []) t i (code_read t i)
  code_exact t i in_text =
      ruled_exact Ban is_banned_attribute banned_depends (λ a. is_in code_symbols a.symbol) to_unit (of_symbol word.Code) refl refl
      (λ lifted x j deep e. inr (ap (λ (l : Lexeme). is l.symbol symbol.BannedAttribute) e)) (stops []) t i in_text

  abbrev from_code : Rel AttributeKind
  from_code = either codes implicits

  abbrev code_on : List ℕ
  code_on = word.Code ∷ symbol.BannedAttribute ∷ word.ImplicitHandle ∷ []

  from_code_begins : Begins from_code code_on
  from_code_begins = either_begins codes implicits code_symbols (word.ImplicitHandle ∷ []) codes_begin implicits_begin refl code_on refl refl

  abbrev kinds : Rel AttributeKind
  kinds = either one_words from_code

  kinds_forth : (lifted : Lifted) (x : Text) (i j : ℕ) (c : AttributeKind) → kinds c lifted x i j → attribute_kind depth c lifted x i j
  unfolding attribute_kind
  kinds_forth lifted x i j c (inl ph) =
      subst (λ (v : AttributeKind). attribute_kind depth v lifted x i j) (sym ph.1)
      (each_meant (λ v s. symbol_at x i ≡ s → attribute_kind depth v lifted x i j) kind.Heap one_word_attributes
      (λ e. (e, ph.2), (λ e. (e, ph.2), (λ e. (e, ph.2), (λ e. (e, ph.2), (λ e. (e, ph.2), (λ e. (e, ph.2), (λ e. (e, ph.2), (λ e. (e, ph.2), (λ e. (e, ph.2), tt)))))))))
      (symbol_at x i) ph.0 refl)
  kinds_forth lifted x i j c (inr (inl ph)) = subst (λ (v : AttributeKind). attribute_kind depth v lifted x i j) (sym ph.1) ph.2
  kinds_forth lifted x i j c (inr (inr ph)) = subst (λ (v : AttributeKind). attribute_kind depth v lifted x i j) (sym ph.1) ph.2

  kinds_back : (lifted : Lifted) (x : Text) (i j : ℕ) (c : AttributeKind) → attribute_kind depth c lifted x i j → kinds c lifted x i j
  unfolding attribute_kind
  kinds_back lifted x i j kind.AutoHandle ph = inl (one_word kind.Heap one_word_attributes word.AutoHandle kind.AutoHandle refl refl lifted x i j ph)
  kinds_back lifted x i j kind.ExplicitHandle ph = inl (one_word kind.Heap one_word_attributes word.ExplicitHandle kind.ExplicitHandle refl refl lifted x i j ph)
  kinds_back lifted x i j kind.NoCode ph = inl (one_word kind.Heap one_word_attributes word.NoCode kind.NoCode refl refl lifted x i j ph)
  kinds_back lifted x i j kind.InLine ph = inl (one_word kind.Heap one_word_attributes word.InLine kind.InLine refl refl lifted x i j ph)
  kinds_back lifted x i j kind.OutOfLine ph = inl (one_word kind.Heap one_word_attributes word.OutOfLine kind.OutOfLine refl refl lifted x i j ph)
  kinds_back lifted x i j kind.EnableAllocate ph = inl (one_word kind.Heap one_word_attributes word.EnableAllocate kind.EnableAllocate refl refl lifted x i j ph)
  kinds_back lifted x i j kind.Heap ph = inl (one_word kind.Heap one_word_attributes word.Heap kind.Heap refl refl lifted x i j ph)
  kinds_back lifted x i j kind.CommStatus ph = inl (one_word kind.Heap one_word_attributes word.CommStatus kind.CommStatus refl refl lifted x i j ph)
  kinds_back lifted x i j kind.FaultStatus ph = inl (one_word kind.Heap one_word_attributes word.FaultStatus kind.FaultStatus refl refl lifted x i j ph)
  kinds_back lifted x i j kind.Code ph = inr (inl (tt, refl, ph))
  kinds_back lifted x i j (kind.ImplicitHandle of name) ph = inr (inr ((of, name), refl, ph))

  attribute_kind_exact : (t : Text) (i : ℕ) → i ≤ length t → Exact (attribute_kind depth) (stops []) t i (attribute_kind_read t depth i)
  unfolding attribute_kind_read
  attribute_kind_exact t i in_text =
      changed_exact kinds (attribute_kind depth) kinds_forth (stops []) t i (λ lifted x e c j ph stop. kinds_back lifted x i j c ph) _
      (either_exact one_words from_code one_word_symbols code_on one_words_begin from_code_begins refl (stops []) t i _ _
      (λ h. one_of_exact kind.Heap one_word_attributes word.Heap refl refl (stops []) t i in_text)
      (either_exact codes implicits code_symbols (word.ImplicitHandle ∷ []) codes_begin implicits_begin refl (stops []) t i _ _
      (λ h. made_exact (λ (u : Unit {0}). kind.Code) code (stops []) t i (code_read t i) (code_exact t i in_text))
      (made_exact implicit_of (word.ImplicitHandle ⊳ in_round depth variable) (stops []) t i (implicit_handle_read t depth i) (implicit_exact t i in_text))))

-- what an attribute begins with
abbrev attribute_firsts : List ℕ
attribute_firsts =
    word.AutoHandle ∷ word.ExplicitHandle ∷ word.NoCode ∷ word.InLine ∷ word.OutOfLine ∷ word.EnableAllocate ∷ word.Heap ∷ word.CommStatus ∷ word.FaultStatus ∷ code_on 0

kind_begins : (depth : ℕ) → Begins (attribute_kind depth) attribute_firsts
kind_begins depth lifted x i j c ph =
    either_begins (one_words depth) (from_code depth) one_word_symbols (code_on depth) (one_words_begin depth) (from_code_begins depth) refl attribute_firsts refl refl lifted x i j c
    (kinds_back depth lifted x i j c ph)

kind_has : (depth : ℕ) → HasPhrase (attribute_kind depth)
unfolding attribute_kind
kind_has depth = turned_has (marked word.Heap) (attribute_kind depth) (λ u. kind.Heap) (λ lifted x i j a ph. ph) (mark_has word.Heap refl)

attribute_has : (depth : ℕ) → HasPhrase (attribute depth)
unfolding attribute
attribute_has depth = turned_has (located (attribute_kind depth)) (attribute depth) attribute_of (λ lifted x i j a ph. ph) (located_has (attribute_kind depth) (kind_has depth))

attribute_exact : (t : Text) (depth i : ℕ) → i ≤ length t → Exact (attribute depth) (stops []) t i (attribute_read t depth i)
unfolding attribute attribute_read
attribute_exact t depth i in_text =
    turned_exact (located (attribute_kind depth)) (attribute depth) attribute_of (λ lifted x i j a ph. ph) (stops []) t i
    (λ lifted x e c j ph stop. record { part = (c.at, c.kind); is = refl; phrase = ph }) _
    (located_exact (attribute_kind depth) attribute_firsts (stops []) t i (kind_begins depth) refl _ (attribute_kind_exact depth t i in_text))

-- ## lists of attributes

abbrev square : ℕ → Rel (List Attribute)
square depth = bracketed depth symbol.OpenSquare symbol.CloseSquare (commas (attribute (depth + 1)))

square_begins : (depth : ℕ) → Begins (square depth) (symbol.OpenSquare ∷ [])
square_begins depth = bracketed_begins depth symbol.OpenSquare symbol.CloseSquare (commas (attribute (depth + 1))) refl refl

list_has : (depth : ℕ) → HasPhrase (commas (attribute depth))
list_has depth = separated_has symbol.Comma (attribute depth) (attribute_has depth)

pub attributes_exact : (t : Text) (depth i : ℕ) → i ≤ length t → Exact (attributes depth) (stops []) t i (attributes_read t depth i)
unfolding attributes attributes_read
attributes_exact t depth i in_text =
    turned_exact (located (square depth)) (attributes depth) attributes_of (λ lifted x i j a ph. ph) (stops []) t i
    (λ lifted x e c j ph stop. record { part = (c.at, c.list); is = refl; phrase = ph }) _
    (located_exact (square depth) (symbol.OpenSquare ∷ []) (stops []) t i (square_begins depth) refl _
    (bracketed_exact depth symbol.OpenSquare symbol.CloseSquare (commas (attribute (depth + 1))) refl refl (stops (symbol.Comma ∷ [])) (stops []) t i in_text
    (ends_at symbol.CloseSquare (symbol.Comma ∷ []) (stops []) refl) (list_has (depth + 1)) (commas_read t (attribute_read t (depth + 1)))
    (λ room m after in_m.
    separated_exact symbol.Comma (attribute (depth + 1)) [] (symbol.Comma ∷ []) (attribute_has (depth + 1)) refl refl refl refl t m (attribute_read t (depth + 1))
    (λ o based in_o. attribute_exact t (depth + 1) o in_o) m (omega arith) in_m)))

pub attributes_has : (depth : ℕ) → HasPhrase (attributes depth)
unfolding attributes
attributes_has depth =
    turned_has (located (square depth)) (attributes depth) attributes_of (λ lifted x i j a ph. ph)
    (located_has (square depth) (bracketed_has depth symbol.OpenSquare symbol.CloseSquare (commas (attribute (depth + 1))) refl refl (list_has (depth + 1))))

pub attributes_begin : (depth : ℕ) → Begins (attributes depth) (symbol.OpenSquare ∷ [])
unfolding attributes
attributes_begin depth lifted x i j c ph = square_begins depth lifted x i j c.list ph.1

pub maybe_attributes_exact : (t : Text) (depth i : ℕ) → i ≤ length t → Exact (optional (attributes depth)) (stops (symbol.OpenSquare ∷ [])) t i (maybe_attributes_read t depth i)
unfolding maybe_attributes_read
maybe_attributes_exact t depth i in_text =
    option_exact (attributes depth) (symbol.OpenSquare ∷ []) [] (symbol.OpenSquare ∷ []) t i (attributes_begin depth) refl refl in_text (attributes_read t depth)
    (attributes_exact t depth i in_text)

pub maybe_attributes_begin : (depth : ℕ) → BeginsOr (optional (attributes depth)) (symbol.OpenSquare ∷ [])
maybe_attributes_begin depth = option_begins (attributes depth) (symbol.OpenSquare ∷ []) (attributes_begin depth)
