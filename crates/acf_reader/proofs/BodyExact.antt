-- The elements of the body are read exactly.
use Rattle.std.proofs.Common.{◌≡◌, ℕ, ◌+◌, ◌≤◌, Bool, true, false, List, [], ◌∷◌, cond, length, refl, sym, ap, subst, arith, ◌∙◌, ◌||◌, eq-eqb, ◌⊎◌, inl, inr, Option, Some, None, Ok}
use Rattle.std.proofs.lemmas.Bool.{eqb-true}
use Rattle.nd_lemmas.proofs.Booleans.{clash}
use Rattle.idl_grammar.specs.Text.{Lexeme, Text, lexeme_at, symbol_at, is, is_in, Lifted, Rel, many, optional, located, made, ◌⊗◌, ◌⊳◌, ◌⊲◌, ◌∣◌}
use Rattle.idl_grammar.specs.ReadPhrases.{Read, and_then, turned}
use Rattle.idl_grammar.proofs.Exact.{Exact, HasPhrase, Part, pair_exact, turned_exact}
use Rattle.idl_grammar.proofs.Parts.{pair_has, turned_has, optional_has}
use Rattle.idl_grammar.proofs.Sequences.{stops, Begins, subset, disjoint, meets_first, skip_exact, skip_begins, end_exact, end_has, end_begins, pair_begins, or_pair_begins, located_exact}
use Rattle.idl_grammar.proofs.Sequences.{located_has, bracketed_exact, bracketed_has, bracketed_begins, separated_exact, separated_has, separated_begins, list_exact, choice_exact}
use Rattle.idl_grammar.specs.declared.words.Spelling.{Spelling}
use Rattle.idl_grammar.specs.Symbols as symbol
use Rattle.idl_grammar.specs.Expressions.{spelled}
use Rattle.idl_grammar.specs.ReadExpressions.{spelled_read}
use Rattle.idl_grammar.specs.Grammar.{commas, in_round}
use Rattle.idl_grammar.specs.Reading.{branch_read, commas_read, line_read, unless_read}
use Rattle.idl_grammar.proofs.Combine.{changed_exact, turned_same, spelled_exact, spelled_has, spelled_begins, branch_is, bind_is, bind_alike, unless_exact, before_meets}
use Rattle.idl_grammar.proofs.ExportsExact.{at_exact}
use Rattle.idl_grammar.proofs.ParametersExact.{closing, unless_is}
use Rattle.acf_reader.specs.Symbols as word
use Rattle.acf_reader.specs.Symbols.{names}
use Rattle.acf_reader.specs.Grammar as tree
use Rattle.acf_reader.specs.Grammar.{Attributes, Parameter, BodyElement, ident, attributes, parameter, parameters, body_element}
use Rattle.acf_reader.specs.Reading.{ident_read, attributes_read, maybe_attributes_read, parameter_of, parameter_read, parameters_read, signature_read, types_read, include_read, operation_read}
use Rattle.acf_reader.specs.Reading.{element_read, element_firsts, body_read}
use Rattle.acf_reader.proofs.NamesExact.{ident_exact, ident_has, ident_begins}
use Rattle.acf_reader.proofs.AttributesExact.{attributes_exact, attributes_has, attributes_begin, maybe_attributes_exact, maybe_attributes_begin}
use Rattle.idl_grammar.proofs.FileExact.{nothing_apart}

-- ## what stands where

-- what an operation or a parameter begins with
unfoldable pub name_firsts : List ℕ
name_firsts = symbol.OpenSquare ∷ names false

firsts_real : is_in name_firsts 0 ≡ false
unfolding name_firsts names
firsts_real = refl

square_first : subset (symbol.OpenSquare ∷ []) name_firsts ≡ true
unfolding name_firsts
square_first = refl

name_first : subset (names false) name_firsts ≡ true
unfolding name_firsts names
name_first = refl

names_no_square : disjoint (names false) (symbol.OpenSquare ∷ []) ≡ true
unfolding names
names_no_square = refl

firsts_no_close : is_in name_firsts symbol.CloseRound ≡ false
unfolding name_firsts names
firsts_no_close = refl

include_is_name : is_in (names false) word.Include ≡ true
unfolding names
include_is_name = refl

pub elements_real : is_in element_firsts 0 ≡ false
unfolding element_firsts names
elements_real = refl

pub elements_close : is_in element_firsts symbol.CloseCurly ≡ false
unfolding element_firsts names
elements_close = refl

elements_all : subset element_firsts element_firsts ≡ true
unfolding element_firsts names
elements_all = refl

typedef_first : is_in element_firsts symbol.Typedef ≡ true
unfolding element_firsts
typedef_first = refl

include_first : is_in element_firsts word.Include ≡ true
unfolding element_firsts names
include_first = refl

names_element : subset name_firsts element_firsts ≡ true
unfolding element_firsts name_firsts names
names_element = refl

no_typedef : is_in name_firsts symbol.Typedef ≡ false
unfolding name_firsts names
no_typedef = refl

one : (b : Bool) → (b || false) ≡ true → b ≡ true
one true h = refl
one false h = h

-- the one symbol of a list
only_symbol : (s c : ℕ) → is_in (s ∷ []) c ≡ true → c ≡ s
only_symbol s c h = eqb-true c s (one (is c s) h)

-- ## parameters

module _ (depth : ℕ) where
  abbrev parameter_tail : Rel (Option Attributes × Spelling)
  parameter_tail = optional (attributes depth) ⊗ ident false

  parameter_tail_begins : Begins parameter_tail name_firsts
  parameter_tail_begins =
      or_pair_begins (optional (attributes depth)) (ident false) (symbol.OpenSquare ∷ []) (names false) name_firsts (maybe_attributes_begin depth) (ident_begins false) square_first name_first

  parameter_begins : Begins (parameter depth) name_firsts
  unfolding parameter
  parameter_begins lifted x i j c ph = parameter_tail_begins lifted x i j (c.attributes, c.name) ph.1

  parameter_has : HasPhrase (parameter depth)
  unfolding parameter
  parameter_has =
      turned_has (located parameter_tail) (parameter depth) parameter_of (λ lifted x i j a ph. ph)
      (located_has parameter_tail (pair_has _ _ (optional_has (attributes depth)) (ident_has false)))

  parameter_exact : (t : Text) (i : ℕ) → i ≤ length t → Exact (parameter depth) (stops []) t i (parameter_read t depth i)
  unfolding parameter parameter_read
  parameter_exact t i in_text =
      turned_exact (located parameter_tail) (parameter depth) parameter_of (λ lifted x i j a ph. ph) (stops []) t i
      (λ lifted x e c j ph stop. record { part = (c.at, (c.attributes, c.name)); is = refl; phrase = ph }) _
      (located_exact parameter_tail name_firsts (stops []) t i parameter_tail_begins firsts_real _
      (pair_exact (optional (attributes depth)) (ident false) (stops (symbol.OpenSquare ∷ [])) (stops [])
      (meets_first (ident false) (names false) (symbol.OpenSquare ∷ []) (stops []) (ident_begins false) names_no_square)
      (ident_has false) t i (maybe_attributes_read t depth i) (λ a m. ident_read false t m) (maybe_attributes_exact t depth i in_text)
      (λ a m found. ident_exact false (stops []) t m found.within)))

  abbrev list_of : Option (List Parameter) → List Parameter
  list_of None = []
  list_of (Some ps) = ps

  list_forth : (lifted : Lifted) (x : Text) (i j : ℕ) (a : Option (List Parameter)) → optional (commas (parameter depth)) a lifted x i j → parameters depth (list_of a) lifted x i j
  unfolding parameters
  list_forth lifted x i j None ph = ph
  list_forth lifted x i j (Some []) ph = absurd ph
  list_forth lifted x i j (Some (p ∷ ps)) ph = ph

  list_back : (lifted : Lifted) (x : Text) (i j : ℕ) (c : List Parameter) → parameters depth c lifted x i j → Part (optional (commas (parameter depth))) (parameters depth) list_of lifted x i j c
  unfolding parameters
  list_back lifted x i j [] ph = record { part = None; is = refl; phrase = ph }
  list_back lifted x i j (p ∷ ps) ph = record { part = Some (p ∷ ps); is = refl; phrase = ph }

  parameters_has : HasPhrase (parameters depth)
  parameters_has = turned_has (optional (commas (parameter depth))) (parameters depth) list_of list_forth (optional_has (commas (parameter depth)))

  list_exact_of : (t : Text) (i : ℕ) → i ≤ length t → Exact (commas (parameter depth)) (stops (symbol.Comma ∷ [])) t i (commas_read t (parameter_read t depth) i)
  list_exact_of t i in_text =
      separated_exact symbol.Comma (parameter depth) [] (symbol.Comma ∷ []) parameter_has refl refl refl refl t i (parameter_read t depth) (λ m based in_m. parameter_exact t m in_m) i
      (omega arith) in_text

  closing_ends : (x : Text) (j : ℕ) → closing x j → stops (symbol.Comma ∷ []) x j
  closing_ends x j stop = ap (λ (s : ℕ). is_in (symbol.Comma ∷ []) s) (eqb-true (symbol_at x j) symbol.CloseRound stop)

  parameters_is : (t : Text) (i : ℕ) → turned list_of (unless_read symbol.CloseRound t (commas_read t (parameter_read t depth)) i) ≡ parameters_read t depth i
  unfolding parameters_read
  parameters_is t i =
      unless_is list_of symbol.CloseRound t (commas_read t (parameter_read t depth)) i
      ∙ ap (λ (r : Read (List Parameter)). branch_read (symbol.CloseRound ∷ []) t i (Ok ([], i)) r) (turned_same (commas_read t (parameter_read t depth) i))

  parameters_exact : (t : Text) (i : ℕ) → i ≤ length t → Exact (parameters depth) closing t i (parameters_read t depth i)
  parameters_exact t i in_text =
      subst (λ (r : Read (List Parameter)). Exact (parameters depth) closing t i r) (parameters_is t i)
      (turned_exact (optional (commas (parameter depth))) (parameters depth) list_of list_forth closing t i (λ lifted x e c j ph stop. list_back lifted x i j c ph) _
      (unless_exact (commas (parameter depth)) name_firsts (separated_begins symbol.Comma (parameter depth) name_firsts parameter_begins) symbol.CloseRound firsts_no_close
      (stops (symbol.Comma ∷ [])) closing_ends t i in_text
      (commas_read t (parameter_read t depth)) (list_exact_of t i in_text)))

-- ## elements

module _ (depth : ℕ) where
  abbrev round_parameters : Rel (List Parameter)
  round_parameters = in_round depth (parameters (depth + 1))

  round_parameters_has : HasPhrase round_parameters
  round_parameters_has = bracketed_has depth symbol.OpenRound symbol.CloseRound (parameters (depth + 1)) refl refl (parameters_has (depth + 1))

  abbrev signature : Rel (List Parameter)
  signature = round_parameters ⊲ symbol.Semicolon

  signature_has : HasPhrase signature
  signature_has = end_has round_parameters symbol.Semicolon refl round_parameters_has

  signature_begins : Begins signature (symbol.OpenRound ∷ [])
  signature_begins = end_begins round_parameters symbol.Semicolon (symbol.OpenRound ∷ []) (bracketed_begins depth symbol.OpenRound symbol.CloseRound (parameters (depth + 1)) refl refl)

  signature_exact : (t : Text) (i : ℕ) → i ≤ length t → Exact signature (stops []) t i (signature_read t depth i)
  unfolding signature_read
  signature_exact t i in_text =
      end_exact round_parameters symbol.Semicolon [] (stops []) t i refl refl _
      (bracketed_exact depth symbol.OpenRound symbol.CloseRound (parameters (depth + 1)) refl refl closing (stops []) t i in_text (before_meets symbol.CloseRound) (parameters_has (depth + 1))
      (parameters_read t (depth + 1)) (λ room o after in_o. parameters_exact (depth + 1) t o in_o))

  -- names after `typedef`
  abbrev names_line : Rel (List Spelling)
  names_line = commas (ident false) ⊲ symbol.Semicolon

  names_line_has : HasPhrase names_line
  names_line_has = end_has (commas (ident false)) symbol.Semicolon refl (separated_has symbol.Comma (ident false) (ident_has false))

  names_line_exact : (t : Text) (i : ℕ) → i ≤ length t → Exact names_line (stops []) t i (line_read t (commas_read t (ident_read false t) i))
  names_line_exact t i in_text =
      end_exact (commas (ident false)) symbol.Semicolon (symbol.Comma ∷ []) (stops []) t i refl refl _
      (separated_exact symbol.Comma (ident false) [] (symbol.Comma ∷ []) (ident_has false) refl refl refl refl t i (ident_read false t) (λ m based in_m. ident_exact false (stops []) t m in_m) i
      (omega arith) in_text)

  abbrev types_tail : Rel (Attributes × List Spelling)
  types_tail = attributes depth ⊗ names_line

  types_tail_has : HasPhrase types_tail
  types_tail_has = pair_has _ _ (attributes_has depth) names_line_has

  abbrev types_line : Rel (Attributes × List Spelling)
  types_line = symbol.Typedef ⊳ types_tail

  abbrev types_of : ℕ × (Attributes × List Spelling) → BodyElement
  types_of p = tree.Types p.0 p.1.0 p.1.1

  abbrev types : Rel BodyElement
  types = made types_of (located types_line)

  types_exact : (t : Text) (i : ℕ) → i ≤ length t → Exact types (stops []) t i (types_read t depth (lexeme_at t i).at i)
  unfolding types_read
  types_exact t i in_text =
      at_exact types_of types_line (symbol.Typedef ∷ []) t i (skip_begins symbol.Typedef types_tail) refl _
      (skip_exact symbol.Typedef types_tail (stops []) t i refl in_text types_tail_has _
      (λ m after in_m.
      pair_exact (attributes depth) names_line (stops []) (stops []) (λ lifted x m j b ph stop. refl) names_line_has t m (attributes_read t depth m)
      (λ a o. line_read t (commas_read t (ident_read false t) o))
      (attributes_exact t depth m in_m) (λ a o found. names_line_exact t o found.within)))

  -- strings after `include`
  abbrev strings_line : Rel (List Spelling)
  strings_line = commas (spelled symbol.Quoted) ⊲ symbol.Semicolon

  strings_has : HasPhrase (commas (spelled symbol.Quoted))
  strings_has = separated_has symbol.Comma (spelled symbol.Quoted) (spelled_has symbol.Quoted refl)

  strings_line_begins : Begins strings_line (symbol.Quoted ∷ [])
  strings_line_begins =
      end_begins (commas (spelled symbol.Quoted)) symbol.Semicolon (symbol.Quoted ∷ []) (separated_begins symbol.Comma (spelled symbol.Quoted) (symbol.Quoted ∷ []) (spelled_begins symbol.Quoted refl))

  strings_line_exact : (t : Text) (i : ℕ) → i ≤ length t → Exact strings_line (stops []) t i (line_read t (commas_read t (spelled_read symbol.Quoted t) i))
  strings_line_exact t i in_text =
      end_exact (commas (spelled symbol.Quoted)) symbol.Semicolon (symbol.Comma ∷ []) (stops []) t i refl refl _
      (separated_exact symbol.Comma (spelled symbol.Quoted) [] (symbol.Comma ∷ []) (spelled_has symbol.Quoted refl) refl refl refl refl t i (spelled_read symbol.Quoted t)
      (λ m based in_m. spelled_exact symbol.Quoted refl (stops []) t m in_m) i (omega arith) in_text)

  -- What begins with `include`: strings, or an operation of that name.
  abbrev behind : Rel (List Spelling ⊎ List Parameter)
  behind = strings_line ∣ signature

  behind_has : HasPhrase behind
  behind_has = turned_has strings_line behind inl (λ lifted x i j a ph. ph) (end_has (commas (spelled symbol.Quoted)) symbol.Semicolon refl strings_has)

  abbrev include_line : Rel (Spelling × (List Spelling ⊎ List Parameter))
  include_line = spelled word.Include ⊗ behind

  include_line_begins : Begins include_line (word.Include ∷ [])
  include_line_begins = pair_begins (spelled word.Include) behind (word.Include ∷ []) (spelled_begins word.Include refl)

  abbrev behind_made : ℕ → Spelling → List Spelling ⊎ List Parameter → BodyElement
  behind_made at name (inl files) = tree.Include at files
  behind_made at name (inr ps) = tree.Operation at None name ps

  abbrev include_of : ℕ × (Spelling × (List Spelling ⊎ List Parameter)) → BodyElement
  include_of p = behind_made p.0 p.1.0 p.1.1

  abbrev includes : Rel BodyElement
  includes = made include_of (located include_line)

  include_line_exact : (t : Text) (i : ℕ) → i ≤ length t
      → Exact include_line (stops []) t i
      (and_then (spelled_read word.Include t i)
      (λ name m. Rattle.idl_grammar.specs.ReadPhrases.choice_read (symbol.Quoted ∷ []) t m (line_read t (commas_read t (spelled_read symbol.Quoted t) m)) (signature_read t depth m)))
  include_line_exact t i in_text =
      pair_exact (spelled word.Include) behind (stops []) (stops []) (λ lifted x m j b ph stop. refl) behind_has t i (spelled_read word.Include t i) _
      (spelled_exact word.Include refl (stops []) t i in_text)
      (λ name m found.
      choice_exact strings_line signature (symbol.Quoted ∷ []) (symbol.OpenRound ∷ []) strings_line_begins signature_begins refl (stops []) t m _ _ (λ h. strings_line_exact t m found.within)
      (signature_exact t m found.within))

  include_is : (t : Text) (at i : ℕ)
      → turned (λ p. behind_made at p.0 p.1)
      (and_then (spelled_read word.Include t i)
      (λ name m. Rattle.idl_grammar.specs.ReadPhrases.choice_read (symbol.Quoted ∷ []) t m (line_read t (commas_read t (spelled_read symbol.Quoted t) m)) (signature_read t depth m)))
      ≡ include_read t depth at i
  unfolding include_read
  include_is t at i =
      bind_is (behind_made at) (spelled_read word.Include t i) _
      ∙ bind_alike (spelled_read word.Include t i) _ _
      (λ name m. branch_is (behind_made at name) (symbol.Quoted ∷ []) t m (line_read t (commas_read t (spelled_read symbol.Quoted t) m)) (signature_read t depth m))

  include_exact : (t : Text) (i : ℕ) → i ≤ length t → Exact includes (stops []) t i (include_read t depth (lexeme_at t i).at i)
  include_exact t i in_text =
      subst (λ (r : Read BodyElement). Exact includes (stops []) t i r) (include_is t (lexeme_at t i).at i)
      (at_exact include_of include_line (word.Include ∷ []) t i include_line_begins refl _ (include_line_exact t i in_text))

  -- operations
  abbrev named_line : Rel (Spelling × List Parameter)
  named_line = ident false ⊗ signature

  named_line_begins : Begins named_line (names false)
  named_line_begins = pair_begins (ident false) signature (names false) (ident_begins false)

  named_line_has : HasPhrase named_line
  named_line_has = pair_has _ _ (ident_has false) signature_has

  abbrev operation_line : Rel (Option Attributes × (Spelling × List Parameter))
  operation_line = optional (attributes depth) ⊗ named_line

  operation_line_begins : Begins operation_line name_firsts
  operation_line_begins =
      or_pair_begins (optional (attributes depth)) named_line (symbol.OpenSquare ∷ []) (names false) name_firsts (maybe_attributes_begin depth) named_line_begins square_first name_first

  abbrev operation_of : ℕ × (Option Attributes × (Spelling × List Parameter)) → BodyElement
  operation_of p = tree.Operation p.0 p.1.0 p.1.1.0 p.1.1.1

  abbrev operations : Rel BodyElement
  operations = made operation_of (located operation_line)

  operation_exact : (t : Text) (i : ℕ) → i ≤ length t → Exact operations (stops []) t i (operation_read t depth (lexeme_at t i).at i)
  unfolding operation_read
  operation_exact t i in_text =
      at_exact operation_of operation_line name_firsts t i operation_line_begins firsts_real _
      (pair_exact (optional (attributes depth)) named_line (stops (symbol.OpenSquare ∷ [])) (stops [])
      (meets_first named_line (names false) (symbol.OpenSquare ∷ []) (stops []) named_line_begins names_no_square) named_line_has t i
      (maybe_attributes_read t depth i) _ (maybe_attributes_exact t depth i in_text)
      (λ a m found.
      pair_exact (ident false) signature (stops []) (stops []) (λ lifted x m j b ph stop. refl) signature_has t m (ident_read false t m) (λ name o. signature_read t depth o)
      (ident_exact false (stops []) t m found.within)
      (λ name o found_o. signature_exact t o found_o.within)))

  -- ## which it is

  element_begins : Begins (body_element depth) element_firsts
  unfolding body_element
  element_begins lifted x i j (tree.Include at files) ph = ap (λ (s : ℕ). is_in element_firsts s) ph.1.1.0 ∙ include_first
  element_begins lifted x i j (tree.Types at a names) ph = ap (λ (s : ℕ). is_in element_firsts s) ph.1.1.0 ∙ typedef_first
  element_begins lifted x i j (tree.Operation at a name ps) ph =
      Rattle.idl_grammar.proofs.Sequences.in_more name_firsts element_firsts (symbol_at x i) names_element (operation_line_begins lifted x i j (a, (name, ps)) ph.1)

  types_forth : (lifted : Lifted) (x : Text) (i j : ℕ) (c : BodyElement) → types c lifted x i j → body_element depth c lifted x i j
  unfolding body_element
  types_forth lifted x i j c ph = subst (λ (v : BodyElement). body_element depth v lifted x i j) (sym ph.1) ph.2

  operations_forth : (lifted : Lifted) (x : Text) (i j : ℕ) (c : BodyElement) → operations c lifted x i j → body_element depth c lifted x i j
  unfolding body_element
  operations_forth lifted x i j c ph = subst (λ (v : BodyElement). body_element depth v lifted x i j) (sym ph.1) ph.2

  includes_forth : (lifted : Lifted) (x : Text) (i j : ℕ) (c : BodyElement) → includes c lifted x i j → body_element depth c lifted x i j
  unfolding body_element
  includes_forth lifted x i j c ph = subst (λ (v : BodyElement). body_element depth v lifted x i j) (sym ph.1) (by_case ph.0 ph.2) where
    by_case : (p : ℕ × (Spelling × (List Spelling ⊎ List Parameter))) → located include_line p lifted x i j → body_element depth (include_of p) lifted x i j
    by_case (at, (name, inl files)) q = (q.0, (q.1.0, (eqb-true (symbol_at x i) word.Include q.1.1.0, q.1.1.2), q.1.2))
    by_case (at, (name, inr ps)) q =
        (q.0, (i, refl, (q.1.0, (ap (λ (s : ℕ). is_in (names false) s) (eqb-true (symbol_at x i) word.Include q.1.1.0) ∙ include_is_name, q.1.1.1, q.1.1.2), q.1.2)))

  module _ (t : Text) (i : ℕ) where
    types_back : is_in (symbol.Typedef ∷ []) (symbol_at t i) ≡ true → (lifted : Lifted) (x : Text) → lexeme_at x i ≡ lexeme_at t i → (c : BodyElement) (j : ℕ) → body_element depth c lifted x i j
        → types c lifted x i j
    unfolding body_element
    types_back h lifted x e c j ph = by_case c ph where
      here : symbol_at x i ≡ symbol.Typedef
      here = ap (λ (l : Lexeme). l.symbol) e ∙ only_symbol symbol.Typedef (symbol_at t i) h

      by_case : (c : BodyElement) → body_element depth c lifted x i j → types c lifted x i j
      by_case (tree.Types at a names) q = ((at, (a, names)), refl, q)
      by_case (tree.Include at files) q = absurd (let d : symbol.Typedef ≡ word.Include = sym here ∙ q.1.1.0 in omega arith)
      by_case (tree.Operation at a name ps) q =
          clash (is_in name_firsts (symbol_at x i)) (operation_line_begins lifted x i j (a, (name, ps)) q.1) (ap (λ (s : ℕ). is_in name_firsts s) here ∙ no_typedef)

    includes_back : is_in (word.Include ∷ []) (symbol_at t i) ≡ true → (lifted : Lifted) (x : Text) → lexeme_at x i ≡ lexeme_at t i → (c : BodyElement) (j : ℕ) → body_element depth c lifted x i j
        → includes c lifted x i j
    unfolding body_element
    includes_back h lifted x e c j ph = by_case c ph where
      here : symbol_at x i ≡ word.Include
      here = ap (λ (l : Lexeme). l.symbol) e ∙ only_symbol word.Include (symbol_at t i) h

      tested : is (symbol_at x i) word.Include ≡ true
      tested = eq-eqb (symbol_at x i) word.Include here

      by_case : (c : BodyElement) → body_element depth c lifted x i j → includes c lifted x i j
      by_case (tree.Types at a names) q = absurd (let d : word.Include ≡ symbol.Typedef = sym here ∙ q.1.1.0 in omega arith)
      by_case (tree.Include at files) q = ((at, (Rattle.idl_grammar.specs.Expressions.spelling (lexeme_at x i), inl files)), refl, (q.0, (q.1.0, (tested, refl, q.1.1.1), q.1.2)))
      by_case (tree.Operation at (Some a) name ps) q =
          clash (is_in (symbol.OpenSquare ∷ []) (symbol_at x i)) (attributes_begin depth lifted x i q.1.0 a q.1.1) (ap (λ (s : ℕ). is_in (symbol.OpenSquare ∷ []) s) here)
      by_case (tree.Operation at None name ps) q = (
        (at, (name, inr ps)),
        refl,
        (q.0, subst (λ (k : ℕ). include_line (name, inr ps) lifted x k j) q.1.1 (q.1.2.0, (ap (λ (k : ℕ). is (symbol_at x k) word.Include) q.1.1 ∙ tested, q.1.2.1.1, q.1.2.1.2), q.1.2.2)),
      )

    operations_back : is_in (symbol.Typedef ∷ []) (symbol_at t i) ≡ false → is_in (word.Include ∷ []) (symbol_at t i) ≡ false
        → (lifted : Lifted) (x : Text) → lexeme_at x i ≡ lexeme_at t i → (c : BodyElement) (j : ℕ) → body_element depth c lifted x i j → operations c lifted x i j
    unfolding body_element
    operations_back h g lifted x e (tree.Operation at a name ps) j ph = ((at, (a, (name, ps))), refl, ph)
    operations_back h g lifted x e (tree.Types at a names) j ph =
        clash (is_in (symbol.Typedef ∷ []) (symbol_at t i)) (ap (λ (l : Lexeme). is_in (symbol.Typedef ∷ []) l.symbol) (sym e) ∙ ap (λ (s : ℕ). is_in (symbol.Typedef ∷ []) s) ph.1.1.0) h
    operations_back h g lifted x e (tree.Include at files) j ph =
        clash (is_in (word.Include ∷ []) (symbol_at t i)) (ap (λ (l : Lexeme). is_in (word.Include ∷ []) l.symbol) (sym e) ∙ ap (λ (s : ℕ). is_in (word.Include ∷ []) s) ph.1.1.0) g

    abbrev Whole : Read BodyElement → Type 0
    Whole r = Exact (body_element depth) (stops []) t i r

    no_types : i ≤ length t → is_in (symbol.Typedef ∷ []) (symbol_at t i) ≡ false → (b : Bool) → is_in (word.Include ∷ []) (symbol_at t i) ≡ b
        → Whole (cond b (include_read t depth (lexeme_at t i).at i) (operation_read t depth (lexeme_at t i).at i))
    no_types in_text h true g = changed_exact includes (body_element depth) includes_forth (stops []) t i (λ lifted x e c j ph stop. includes_back g lifted x e c j ph) _ (include_exact t i in_text)
    no_types in_text h false g =
        changed_exact operations (body_element depth) operations_forth (stops []) t i (λ lifted x e c j ph stop. operations_back h g lifted x e c j ph) _ (operation_exact t i in_text)

    by_word : i ≤ length t → (b : Bool) → is_in (symbol.Typedef ∷ []) (symbol_at t i) ≡ b
        → Whole (cond b (types_read t depth (lexeme_at t i).at i) (branch_read (word.Include ∷ []) t i (include_read t depth (lexeme_at t i).at i) (operation_read t depth (lexeme_at t i).at i)))
    by_word in_text true h = changed_exact types (body_element depth) types_forth (stops []) t i (λ lifted x e c j ph stop. types_back h lifted x e c j ph) _ (types_exact t i in_text)
    by_word in_text false h = no_types in_text h (is_in (word.Include ∷ []) (symbol_at t i)) refl

    element_exact : i ≤ length t → Exact (body_element depth) (stops []) t i (element_read t depth i)
    unfolding element_read
    element_exact in_text = by_word in_text (is_in (symbol.Typedef ∷ []) (symbol_at t i)) refl

  pub body_exact : (t : Text) (i : ℕ) → i ≤ length t → Exact (many (body_element depth)) (stops element_firsts) t i (body_read t depth i)
  unfolding body_read
  body_exact t i in_text =
      list_exact (body_element depth) element_firsts [] element_firsts element_begins elements_real elements_all refl (nothing_apart element_firsts) t i (element_read t depth)
      (λ m based in_m. element_exact t m in_m) i (omega arith) in_text
