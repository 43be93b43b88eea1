-- Attributes are read exactly: the kinds of attributes, and lists of them.
use Rattle.std.proofs.Common.{◌≡◌, ℕ, ◌+◌, ◌≤◌, true, List, [], ◌∷◌, length, refl, sym, ap, subst, arith, inl, inr, Option}
use Rattle.idl_grammar.specs.Text.{Lexeme, Text, symbol_at, is, is_in, Ban, Lifted, Rel, optional, bracketed, located, ◌⊗◌, ◌⊳◌, made}
use Rattle.idl_grammar.specs.ReadPhrases.{to_unit}
use Rattle.idl_grammar.proofs.Exact.{Agrees, Exact, HasPhrase, turned_exact}
use Rattle.idl_grammar.proofs.Parts.{marked, mark_has, turned_has, ruled_exact, of_symbol}
use Rattle.idl_grammar.proofs.Sequences.{stops, Begins, BeginsOr, ends_at, skip_begins, pair_begins, option_exact, option_begins, separated_exact, separated_has, bracketed_exact, bracketed_has}
use Rattle.idl_grammar.proofs.Sequences.{bracketed_begins, located_exact, located_has}
use Rattle.idl_grammar.specs.declared.words.Spelling.{Spelling}
use Rattle.idl_grammar.specs.declared.attributes.VariableWord.{VariableWord}
use Rattle.idl_grammar.specs.declared.attributes.Variable.{Variable}
use Rattle.idl_grammar.specs.Symbols as symbol
use Rattle.idl_grammar.specs.Tree as tree
use Rattle.idl_grammar.specs.Tree.{Expr, AttributeKind, Attribute, Attributes}
use Rattle.idl_grammar.specs.Expressions.{spelled, outer}
use Rattle.idl_grammar.specs.Grammar.{one_of, in_round, commas, switch_type, pointer_class, variable_word, variable_name, is_banned_attribute, local, attribute_kind, attribute, attributes}
use Rattle.idl_grammar.specs.Reading.{commas_read, pointer_class_read, plain_words, plain_symbols, class_symbols, variable_symbols, local_symbols, local_read, uuid_read, version_read, endpoint_read}
use Rattle.idl_grammar.specs.Reading.{pointer_default_read, variable_read, switch_attribute_read, case_attribute_read, bracket_attribute_read, attribute_kind_read, attribute_of, attribute_read}
use Rattle.idl_grammar.specs.Reading.{attributes_of, attributes_read, maybe_attributes_read}
use Rattle.idl_grammar.proofs.Combine.{changed_exact, one_of_exact, one_word, each_meant, either, either_exact, either_begins}
use Rattle.idl_grammar.proofs.Sequences.{made_exact, made_begins}
use Rattle.idl_grammar.proofs.AttributesExact.{pointer_class_exact, pointer_class_begins, variable_word_begins, uuid_exact, version_numbers, version_exact, endpoint_exact, pointer_default_exact}
use Rattle.idl_grammar.proofs.AttributesExact.{variable_exact, switch_attribute_exact, case_attribute_exact}

module _ (depth : ℕ) where
  -- ## attributes with brackets

  abbrev uuids : Rel AttributeKind
  uuids = made tree.Uuid (symbol.Uuid ⊳ in_round depth (spelled symbol.UuidValue))

  abbrev version_of : Spelling × Option Spelling → AttributeKind
  version_of p = tree.Version p.0 p.1

  abbrev versions : Rel AttributeKind
  versions = made version_of (symbol.Version ⊳ in_round depth version_numbers)

  abbrev endpoints : Rel AttributeKind
  endpoints = made tree.Endpoint (symbol.Endpoint ⊳ in_round depth (commas (spelled symbol.Quoted)))

  abbrev pointer_defaults : Rel AttributeKind
  pointer_defaults = made tree.PointerDefault (symbol.PointerDefault ⊳ in_round depth pointer_class)

  abbrev of_parts : VariableWord × Variable → AttributeKind
  of_parts p = tree.Of p.0 p.1

  abbrev variables : Rel AttributeKind
  variables = made of_parts (variable_word ⊗ in_round depth variable_name)

  abbrev switch_types : Rel AttributeKind
  switch_types = made tree.SwitchTypeIs (symbol.SwitchType ⊳ in_round depth (switch_type true))

  abbrev case_lists : Rel AttributeKind
  case_lists = made tree.Case (symbol.Case ⊳ in_round depth (commas (outer true (depth + 1))))

  case_begins : Begins case_lists (symbol.Case ∷ [])
  case_begins = made_begins tree.Case _ (symbol.Case ∷ []) (skip_begins symbol.Case (in_round depth (commas (outer true (depth + 1)))))

  switch_begins : Begins switch_types (symbol.SwitchType ∷ [])
  switch_begins = made_begins tree.SwitchTypeIs _ (symbol.SwitchType ∷ []) (skip_begins symbol.SwitchType (in_round depth (switch_type true)))

  variables_begin : Begins variables variable_symbols
  variables_begin = made_begins of_parts _ variable_symbols (pair_begins variable_word (in_round depth variable_name) variable_symbols variable_word_begins)

  default_begins : Begins pointer_defaults (symbol.PointerDefault ∷ [])
  default_begins = made_begins tree.PointerDefault _ (symbol.PointerDefault ∷ []) (skip_begins symbol.PointerDefault (in_round depth pointer_class))

  endpoint_begins : Begins endpoints (symbol.Endpoint ∷ [])
  endpoint_begins = made_begins tree.Endpoint _ (symbol.Endpoint ∷ []) (skip_begins symbol.Endpoint (in_round depth (commas (spelled symbol.Quoted))))

  version_begins : Begins versions (symbol.Version ∷ [])
  version_begins = made_begins version_of _ (symbol.Version ∷ []) (skip_begins symbol.Version (in_round depth version_numbers))

  uuid_begins : Begins uuids (symbol.Uuid ∷ [])
  uuid_begins = made_begins tree.Uuid _ (symbol.Uuid ∷ []) (skip_begins symbol.Uuid (in_round depth (spelled symbol.UuidValue)))

  abbrev from_switch : Rel AttributeKind
  from_switch = either switch_types case_lists

  abbrev switch_on : List ℕ
  switch_on = symbol.SwitchType ∷ symbol.Case ∷ []

  from_switch_begins : Begins from_switch switch_on
  from_switch_begins = either_begins switch_types case_lists (symbol.SwitchType ∷ []) (symbol.Case ∷ []) switch_begins case_begins refl switch_on refl refl

  abbrev from_variables : Rel AttributeKind
  from_variables = either variables from_switch

  abbrev variables_on : List ℕ
  variables_on = symbol.SizeIs ∷ symbol.MaxIs ∷ symbol.LengthIs ∷ symbol.FirstIs ∷ symbol.LastIs ∷ symbol.SwitchIs ∷ switch_on

  from_variables_begins : Begins from_variables variables_on
  from_variables_begins = either_begins variables from_switch variable_symbols switch_on variables_begin from_switch_begins refl variables_on refl refl

  abbrev from_default : Rel AttributeKind
  from_default = either pointer_defaults from_variables

  abbrev default_on : List ℕ
  default_on = symbol.PointerDefault ∷ variables_on

  from_default_begins : Begins from_default default_on
  from_default_begins = either_begins pointer_defaults from_variables (symbol.PointerDefault ∷ []) variables_on default_begins from_variables_begins refl default_on refl refl

  abbrev from_endpoint : Rel AttributeKind
  from_endpoint = either endpoints from_default

  abbrev endpoint_on : List ℕ
  endpoint_on = symbol.Endpoint ∷ default_on

  from_endpoint_begins : Begins from_endpoint endpoint_on
  from_endpoint_begins = either_begins endpoints from_default (symbol.Endpoint ∷ []) default_on endpoint_begins from_default_begins refl endpoint_on refl refl

  abbrev from_version : Rel AttributeKind
  from_version = either versions from_endpoint

  abbrev version_on : List ℕ
  version_on = symbol.Version ∷ endpoint_on

  from_version_begins : Begins from_version version_on
  from_version_begins = either_begins versions from_endpoint (symbol.Version ∷ []) endpoint_on version_begins from_endpoint_begins refl version_on refl refl

  abbrev with_brackets : Rel AttributeKind
  with_brackets = either uuids from_version

  abbrev brackets_on : List ℕ
  brackets_on = symbol.Uuid ∷ version_on

  with_brackets_begins : Begins with_brackets brackets_on
  with_brackets_begins = either_begins uuids from_version (symbol.Uuid ∷ []) version_on uuid_begins from_version_begins refl brackets_on refl refl

  bracket_attribute_exact : (nesting : ℕ) → 129 ≤ nesting → (t : Text) (i : ℕ) → i ≤ length t → Exact with_brackets (stops []) t i (bracket_attribute_read nesting t depth i)
  unfolding bracket_attribute_read
  bracket_attribute_exact nesting enough t i in_text =
      either_exact uuids from_version (symbol.Uuid ∷ []) version_on uuid_begins from_version_begins refl (stops []) t i _ _
      (λ h. made_exact tree.Uuid _ (stops []) t i (uuid_read t depth i) (uuid_exact depth t i in_text))
      (either_exact versions from_endpoint (symbol.Version ∷ []) endpoint_on version_begins from_endpoint_begins refl (stops []) t i _ _
      (λ h. made_exact version_of _ (stops []) t i (version_read t depth i) (version_exact depth t i in_text))
      (either_exact endpoints from_default (symbol.Endpoint ∷ []) default_on endpoint_begins from_default_begins refl (stops []) t i _ _
      (λ h. made_exact tree.Endpoint _ (stops []) t i (endpoint_read t depth i) (endpoint_exact depth t i in_text))
      (either_exact pointer_defaults from_variables (symbol.PointerDefault ∷ []) variables_on default_begins from_variables_begins refl (stops []) t i _ _
      (λ h. made_exact tree.PointerDefault _ (stops []) t i (pointer_default_read t depth i) (pointer_default_exact depth t i in_text))
      (either_exact variables from_switch variable_symbols switch_on variables_begin from_switch_begins refl (stops []) t i _ _
      (λ h. made_exact of_parts _ (stops []) t i (variable_read t depth i) (variable_exact depth t i in_text))
      (either_exact switch_types case_lists (symbol.SwitchType ∷ []) (symbol.Case ∷ []) switch_begins case_begins refl (stops []) t i _ _
      (λ h. made_exact tree.SwitchTypeIs _ (stops []) t i (switch_attribute_read t depth i) (switch_attribute_exact depth t i in_text))
      (made_exact tree.Case _ (stops []) t i (case_attribute_read nesting t depth i) (case_attribute_exact nesting depth enough t i in_text)))))))

  -- ## attributes of one word

  abbrev plain : Rel AttributeKind
  plain = one_of tree.Maybe plain_words

  abbrev classes : Rel AttributeKind
  classes = made tree.Class pointer_class

  abbrev locals : Rel AttributeKind
  locals = made (λ (u : Unit {0}). tree.Local) local

  banned_depends : (t x : Text) (i : ℕ) → Agrees t x (i + 1) → is_banned_attribute x i ≡ is_banned_attribute t i
  banned_depends t x i agrees = ap (λ (l : Lexeme). is l.symbol symbol.BannedAttribute) (agrees i (omega arith))

  local_exact : (t : Text) (i : ℕ) → i ≤ length t → Exact local (stops []) t i (local_read t i)
  local_exact t i in_text =
      ruled_exact Ban is_banned_attribute banned_depends (λ a. is_in local_symbols a.symbol) to_unit (of_symbol symbol.Local) refl refl
      (λ lifted x j deep e. inr (ap (λ (l : Lexeme). is l.symbol symbol.BannedAttribute) e)) (stops []) t i in_text

  locals_begin : Begins locals local_symbols
  locals_begin lifted x i j c ph = ph.2.1.0

  classes_begin : Begins classes class_symbols
  classes_begin = made_begins tree.Class pointer_class class_symbols pointer_class_begins

  abbrev from_local : Rel AttributeKind
  from_local = either locals with_brackets

  abbrev local_on : List ℕ
  local_on = symbol.Local ∷ symbol.BannedAttribute ∷ brackets_on

  from_local_begins : Begins from_local local_on
  from_local_begins = either_begins locals with_brackets local_symbols brackets_on locals_begin with_brackets_begins refl local_on refl refl

  abbrev from_class : Rel AttributeKind
  from_class = either classes from_local

  abbrev class_on : List ℕ
  class_on = symbol.Ref ∷ symbol.Unique ∷ symbol.Ptr ∷ local_on

  from_class_begins : Begins from_class class_on
  from_class_begins = either_begins classes from_local class_symbols local_on classes_begin from_local_begins refl class_on refl refl

  abbrev kinds : Rel AttributeKind
  kinds = either plain from_class

  abbrev plain_begins : Begins plain plain_symbols
  plain_begins lifted x i j c ph = ph.0

  kinds_forth : (lifted : Lifted) (x : Text) (i j : ℕ) (c : AttributeKind) → kinds c lifted x i j → attribute_kind depth c lifted x i j
  unfolding attribute_kind
  kinds_forth lifted x i j c (inl ph) =
      subst (λ (v : AttributeKind). attribute_kind depth v lifted x i j) (sym ph.1)
      (each_meant (λ v s. symbol_at x i ≡ s → attribute_kind depth v lifted x i j) tree.Maybe plain_words
      (λ e. (e, ph.2), (λ e. (e, ph.2), (λ e. (e, ph.2), (λ e. (e, ph.2), (λ e. (e, ph.2), (λ e. (e, ph.2), (λ e. (e, ph.2), (λ e. (e, ph.2), (λ e. (e, ph.2), (λ e. (e, ph.2), tt))))))))))
      (symbol_at x i) ph.0 refl)
  kinds_forth lifted x i j c (inr (inl ph)) = subst (λ (v : AttributeKind). attribute_kind depth v lifted x i j) (sym ph.1) ph.2
  kinds_forth lifted x i j c (inr (inr (inl ph))) = subst (λ (v : AttributeKind). attribute_kind depth v lifted x i j) (sym ph.1) ph.2
  kinds_forth lifted x i j c (inr (inr (inr (inl ph)))) = subst (λ (v : AttributeKind). attribute_kind depth v lifted x i j) (sym ph.1) ph.2
  kinds_forth lifted x i j c (inr (inr (inr (inr (inl ph))))) = subst (λ (v : AttributeKind). attribute_kind depth v lifted x i j) (sym ph.1) ph.2
  kinds_forth lifted x i j c (inr (inr (inr (inr (inr (inl ph)))))) = subst (λ (v : AttributeKind). attribute_kind depth v lifted x i j) (sym ph.1) ph.2
  kinds_forth lifted x i j c (inr (inr (inr (inr (inr (inr (inl ph))))))) = subst (λ (v : AttributeKind). attribute_kind depth v lifted x i j) (sym ph.1) ph.2
  kinds_forth lifted x i j c (inr (inr (inr (inr (inr (inr (inr (inl ph)))))))) = subst (λ (v : AttributeKind). attribute_kind depth v lifted x i j) (sym ph.1) ph.2
  kinds_forth lifted x i j c (inr (inr (inr (inr (inr (inr (inr (inr (inl ph))))))))) = subst (λ (v : AttributeKind). attribute_kind depth v lifted x i j) (sym ph.1) ph.2
  kinds_forth lifted x i j c (inr (inr (inr (inr (inr (inr (inr (inr (inr ph))))))))) = subst (λ (v : AttributeKind). attribute_kind depth v lifted x i j) (sym ph.1) ph.2

  kinds_back : (lifted : Lifted) (x : Text) (i j : ℕ) (c : AttributeKind) → attribute_kind depth c lifted x i j → kinds c lifted x i j
  unfolding attribute_kind
  kinds_back lifted x i j tree.In ph = inl (one_word tree.Maybe plain_words symbol.In tree.In refl refl lifted x i j ph)
  kinds_back lifted x i j tree.Out ph = inl (one_word tree.Maybe plain_words symbol.Out tree.Out refl refl lifted x i j ph)
  kinds_back lifted x i j tree.String ph = inl (one_word tree.Maybe plain_words symbol.String tree.String refl refl lifted x i j ph)
  kinds_back lifted x i j tree.ContextHandle ph = inl (one_word tree.Maybe plain_words symbol.ContextHandle tree.ContextHandle refl refl lifted x i j ph)
  kinds_back lifted x i j tree.Default ph = inl (one_word tree.Maybe plain_words symbol.Default tree.Default refl refl lifted x i j ph)
  kinds_back lifted x i j tree.Idempotent ph = inl (one_word tree.Maybe plain_words symbol.Idempotent tree.Idempotent refl refl lifted x i j ph)
  kinds_back lifted x i j tree.Broadcast ph = inl (one_word tree.Maybe plain_words symbol.Broadcast tree.Broadcast refl refl lifted x i j ph)
  kinds_back lifted x i j tree.Maybe ph = inl (one_word tree.Maybe plain_words symbol.Maybe tree.Maybe refl refl lifted x i j ph)
  kinds_back lifted x i j tree.AnySize ph = inl (one_word tree.Maybe plain_words symbol.AnySize tree.AnySize refl refl lifted x i j ph)
  kinds_back lifted x i j tree.AnyLength ph = inl (one_word tree.Maybe plain_words symbol.AnyLength tree.AnyLength refl refl lifted x i j ph)
  kinds_back lifted x i j (tree.Class k) ph = inr (inl (k, refl, ph))
  kinds_back lifted x i j tree.Local ph = inr (inr (inl (tt, refl, ph)))
  kinds_back lifted x i j (tree.Uuid u) ph = inr (inr (inr (inl (u, refl, ph))))
  kinds_back lifted x i j (tree.Version major minor) ph = inr (inr (inr (inr (inl ((major, minor), refl, ph)))))
  kinds_back lifted x i j (tree.Endpoint list) ph = inr (inr (inr (inr (inr (inl (list, refl, ph))))))
  kinds_back lifted x i j (tree.PointerDefault k) ph = inr (inr (inr (inr (inr (inr (inl (k, refl, ph)))))))
  kinds_back lifted x i j (tree.Of word v) ph = inr (inr (inr (inr (inr (inr (inr (inl ((word, v), refl, ph))))))))
  kinds_back lifted x i j (tree.SwitchTypeIs s) ph = inr (inr (inr (inr (inr (inr (inr (inr (inl (s, refl, ph)))))))))
  kinds_back lifted x i j (tree.Case values) ph = inr (inr (inr (inr (inr (inr (inr (inr (inr (values, refl, ph)))))))))

  pub attribute_kind_exact : (nesting : ℕ) → 129 ≤ nesting → (t : Text) (i : ℕ) → i ≤ length t → Exact (attribute_kind depth) (stops []) t i (attribute_kind_read nesting t depth i)
  unfolding attribute_kind_read
  attribute_kind_exact nesting enough t i in_text =
      changed_exact kinds (attribute_kind depth) kinds_forth (stops []) t i (λ lifted x e c j ph stop. kinds_back lifted x i j c ph) _
      (either_exact plain from_class plain_symbols class_on plain_begins from_class_begins refl (stops []) t i _ _
      (λ h. one_of_exact tree.Maybe plain_words symbol.In refl refl (stops []) t i in_text)
      (either_exact classes from_local class_symbols local_on classes_begin from_local_begins refl (stops []) t i _ _
      (λ h. made_exact tree.Class pointer_class (stops []) t i (pointer_class_read t i) (pointer_class_exact [] t i in_text))
      (either_exact locals with_brackets local_symbols brackets_on locals_begin with_brackets_begins refl (stops []) t i _ _
      (λ h. made_exact (λ (u : Unit {0}). tree.Local) local (stops []) t i (local_read t i) (local_exact t i in_text))
      (bracket_attribute_exact nesting enough t i in_text))))

-- what an attribute begins with
abbrev attribute_firsts : List ℕ
attribute_firsts = symbol.In ∷ symbol.Out ∷ symbol.String ∷ symbol.ContextHandle ∷ symbol.Default ∷ symbol.Idempotent ∷ symbol.Broadcast ∷ symbol.Maybe ∷ symbol.AnySize ∷ symbol.AnyLength ∷ class_on 0

kind_begins : (depth : ℕ) → Begins (attribute_kind depth) attribute_firsts
kind_begins depth lifted x i j c ph =
    either_begins (plain depth) (from_class depth) plain_symbols (class_on depth) (plain_begins depth) (from_class_begins depth) refl attribute_firsts refl refl lifted x i j c
    (kinds_back depth lifted x i j c ph)

kind_has : (depth : ℕ) → HasPhrase (attribute_kind depth)
unfolding attribute_kind
kind_has depth = turned_has (marked symbol.In) (attribute_kind depth) (λ u. tree.In) (λ lifted x i j a ph. ph) (mark_has symbol.In refl)

attribute_has : (depth : ℕ) → HasPhrase (attribute depth)
unfolding attribute
attribute_has depth = turned_has (located (attribute_kind depth)) (attribute depth) attribute_of (λ lifted x i j a ph. ph) (located_has (attribute_kind depth) (kind_has depth))

pub attribute_exact : (nesting : ℕ) → 129 ≤ nesting → (t : Text) (depth i : ℕ) → i ≤ length t → Exact (attribute depth) (stops []) t i (attribute_read nesting t depth i)
unfolding attribute attribute_read
attribute_exact nesting enough t depth i in_text =
    turned_exact (located (attribute_kind depth)) (attribute depth) attribute_of (λ lifted x i j a ph. ph) (stops []) t i
    (λ lifted x e c j ph stop. record { part = (c.at, c.kind); is = refl; phrase = ph }) _
    (located_exact (attribute_kind depth) attribute_firsts (stops []) t i (kind_begins depth) refl _ (attribute_kind_exact depth nesting enough t i in_text))

-- ## lists of attributes

abbrev square : ℕ → Rel (List Attribute)
square depth = bracketed depth symbol.OpenSquare symbol.CloseSquare (commas (attribute (depth + 1)))

square_begins : (depth : ℕ) → Begins (square depth) (symbol.OpenSquare ∷ [])
square_begins depth = bracketed_begins depth symbol.OpenSquare symbol.CloseSquare (commas (attribute (depth + 1))) refl refl

list_has : (depth : ℕ) → HasPhrase (commas (attribute depth))
list_has depth = separated_has symbol.Comma (attribute depth) (attribute_has depth)

pub attributes_exact : (nesting : ℕ) → 129 ≤ nesting → (t : Text) (depth i : ℕ) → i ≤ length t → Exact (attributes depth) (stops []) t i (attributes_read nesting t depth i)
unfolding attributes attributes_read
attributes_exact nesting enough t depth i in_text =
    turned_exact (located (square depth)) (attributes depth) attributes_of (λ lifted x i j a ph. ph) (stops []) t i
    (λ lifted x e c j ph stop. record { part = (c.at, c.list); is = refl; phrase = ph }) _
    (located_exact (square depth) (symbol.OpenSquare ∷ []) (stops []) t i (square_begins depth) refl _
    (bracketed_exact depth symbol.OpenSquare symbol.CloseSquare (commas (attribute (depth + 1))) refl refl (stops (symbol.Comma ∷ [])) (stops []) t i in_text
    (ends_at symbol.CloseSquare (symbol.Comma ∷ []) (stops []) refl) (list_has (depth + 1)) (commas_read t (attribute_read nesting t (depth + 1)))
    (λ room m after in_m.
    separated_exact symbol.Comma (attribute (depth + 1)) [] (symbol.Comma ∷ []) (attribute_has (depth + 1)) refl refl refl refl t m (attribute_read nesting t (depth + 1))
    (λ o based in_o. attribute_exact nesting enough t (depth + 1) o in_o) m (omega arith) in_m)))

pub attributes_has : (depth : ℕ) → HasPhrase (attributes depth)
unfolding attributes
attributes_has depth =
    turned_has (located (square depth)) (attributes depth) attributes_of (λ lifted x i j a ph. ph)
    (located_has (square depth) (bracketed_has depth symbol.OpenSquare symbol.CloseSquare (commas (attribute (depth + 1))) refl refl (list_has (depth + 1))))

pub attributes_begin : (depth : ℕ) → Begins (attributes depth) (symbol.OpenSquare ∷ [])
unfolding attributes
attributes_begin depth lifted x i j c ph = square_begins depth lifted x i j c.list ph.1

pub maybe_attributes_exact : (nesting : ℕ) → 129 ≤ nesting → (t : Text) (depth i : ℕ) → i ≤ length t
    → Exact (optional (attributes depth)) (stops (symbol.OpenSquare ∷ [])) t i (maybe_attributes_read nesting t depth i)
unfolding maybe_attributes_read
maybe_attributes_exact nesting enough t depth i in_text =
    option_exact (attributes depth) (symbol.OpenSquare ∷ []) [] (symbol.OpenSquare ∷ []) t i (attributes_begin depth) refl refl in_text (attributes_read nesting t depth)
    (attributes_exact nesting enough t depth i in_text)

pub maybe_attributes_begin : (depth : ℕ) → BeginsOr (optional (attributes depth)) (symbol.OpenSquare ∷ [])
maybe_attributes_begin depth = option_begins (attributes depth) (symbol.OpenSquare ∷ []) (attributes_begin depth)
