-- What is between the brackets of an operation is read exactly.
use Rattle.std.proofs.Common.{◌≡◌, ℕ, ◌+◌, ◌≤◌, Bool, true, false, List, [], ◌∷◌, cond, length, refl, sym, ap, subst, ◌∙◌, Option, Some, None, Ok, ◌||◌, eq-eqb}
use Rattle.std.proofs.lemmas.Bool.{eqb-true}
use Rattle.nd_lemmas.proofs.Booleans.{clash}
use Rattle.idl_grammar.specs.Text.{Lexeme, Text, lexeme_at, symbol_at, is, is_in, Lifted, Rel, nothing, mark, many, optional, located, separated, made, ◌▹◌, ◌⊗◌, ◌⊳◌}
use Rattle.idl_grammar.specs.ReadPhrases.{Read, and_then, turned}
use Rattle.idl_grammar.proofs.Exact.{Stops, Exact, HasPhrase, Part, pair_exact, turned_exact}
use Rattle.idl_grammar.proofs.Parts.{turned_has, optional_has, many_has}
use Rattle.idl_grammar.proofs.Sequences.{stops, Begins, meets_or, pair_begins, list_begins, separated_begins, skip_begins}
use Rattle.idl_grammar.specs.declared.types.SimpleType.TheVariants as types
use Rattle.idl_grammar.specs.Symbols as symbol
use Rattle.idl_grammar.specs.Expressions.{names, placed}
use Rattle.idl_grammar.specs.Tree as tree
use Rattle.idl_grammar.specs.Tree.{Attributes, Declarator, TypeSpec, Parameter, Parameters}
use Rattle.idl_grammar.specs.ReadExpressions.{placed_read}
use Rattle.idl_grammar.specs.Grammar.{commas, simple, declarator, parameter, parameters}
use Rattle.idl_grammar.specs.Reading.{branch_read, bind_read, commas_read, declarator_read, type_firsts, member_firsts, parameter_of, parameter_read, more_parameters_read, void_parameters_read}
use Rattle.idl_grammar.specs.Reading.{parameters_read}
use Rattle.idl_grammar.proofs.Combine.{stopped_exact, bind_is, bind_alike, turned_twice, placed_exact}
use Rattle.idl_grammar.proofs.AttributeLists.{attributes_begin}
use Rattle.idl_grammar.proofs.DeclaratorsExact.{declarator_firsts, declarator_ends, declarators_ends, declarator_exact, declarator_begins}
use Rattle.idl_grammar.proofs.Exact.{turned_exact}
use Rattle.idl_grammar.specs.Reading.{unless_read}
use Rattle.idl_grammar.proofs.Combine.{turned_same, unless_exact}
use Rattle.idl_grammar.proofs.ParameterExact.{members_no_close, parameter_begins, more_exact, list_of_exact, void_type}

-- ## readings

unless_case : {A C : Type 0} (make : Option A → C) (b : Bool) (r : Read A) (i : ℕ)
    → turned make (cond b (Ok (None, i)) (turned Some r)) ≡ cond (b || false) (Ok (make None, i)) (turned (λ (a : A). make (Some a)) r)
unless_case make true r i = refl
unless_case make false r i = turned_twice Some make r

pub unless_is : {A C : Type 0} (make : Option A → C) (s : ℕ) (t : Text) (item : ℕ → Read A) (i : ℕ)
    → turned make (unless_read s t item i) ≡ branch_read (s ∷ []) t i (Ok (make None, i)) (turned (λ (a : A). make (Some a)) (item i))
unless_is make s t item i = unless_case make (is (symbol_at t i) s) (item i) i

void_listed : is_in member_firsts symbol.Void ≡ true
unfolding member_firsts type_firsts names
void_listed = refl

declarators_no_close : is_in declarator_firsts symbol.CloseRound ≡ false
unfolding declarator_firsts names
declarators_no_close = refl

-- the bracket is next
abbrev pub closing : Stops
closing x j = is (symbol_at x j) symbol.CloseRound ≡ true

closing_ends : (x : Text) (j : ℕ) → closing x j → stops declarators_ends x j
closing_ends x j stop = ap (λ (s : ℕ). is_in declarators_ends s) (eqb-true (symbol_at x j) symbol.CloseRound stop)

module _ (depth : ℕ) where
  -- `void` alone, or a list
  abbrev some_parameters : Rel Parameters
  some_parameters tree.Absent = Rattle.idl_grammar.specs.Text.never
  some_parameters tree.Void = mark symbol.Void
  some_parameters (tree.Listed ps) = commas (parameter depth) ps

  abbrev behind_first : Rel (Declarator × List Parameter)
  behind_first = declarator depth ⊗ many (symbol.Comma ⊳ parameter depth)

  abbrev void_parts : Rel (ℕ × Option (Declarator × List Parameter))
  void_parts = placed symbol.Void ⊗ optional behind_first

  abbrev void_made : ℕ → Option (Declarator × List Parameter) → Parameters
  void_made at None = tree.Void
  void_made at (Some q) = tree.Listed (parameter_of (at, (None, (tree.Simple types.Void, q.0))) ∷ q.1)

  abbrev void_of : ℕ × Option (Declarator × List Parameter) → Parameters
  void_of p = void_made p.0 p.1

  behind_first_begins : Begins behind_first declarator_firsts
  behind_first_begins = pair_begins (declarator depth) (many (symbol.Comma ⊳ parameter depth)) declarator_firsts (declarator_begins depth)

  void_forth : (lifted : Lifted) (x : Text) (i j : ℕ) (p : ℕ × Option (Declarator × List Parameter)) → void_parts p lifted x i j → some_parameters (void_of p) lifted x i j
  unfolding parameter simple
  void_forth lifted x i j (at, None) ph = (eqb-true (symbol_at x i) symbol.Void ph.1.0, ph.2 ∙ ph.1.2)
  void_forth lifted x i j (at, Some q) ph =
      (ph.2.0, (ph.1.1, (i, refl, (ph.0, (eqb-true (symbol_at x i) symbol.Void ph.1.0, ph.1.2), ph.2.1))), ph.2.2)

  abbrev Void_part : (lifted : Lifted) (x : Text) (i j : ℕ) (c : Parameters) → Type 0
  Void_part lifted x i j c = Part void_parts some_parameters void_of lifted x i j c

  void_list_back : (lifted : Lifted) (x : Text) (i j m : ℕ) → symbol_at x i ≡ symbol.Void → (at : ℕ) (a : Option Attributes) (type : TypeSpec) (d : Declarator) (ps : List Parameter)
      → parameter depth (parameter_of (at, (a, (type, d)))) lifted x i m → many (symbol.Comma ⊳ parameter depth) ps lifted x m j
      → Void_part lifted x i j (tree.Listed (parameter_of (at, (a, (type, d))) ∷ ps))
  unfolding parameter
  void_list_back lifted x i j m e at (Some b) type d ps ph others =
      clash (is_in (symbol.OpenSquare ∷ []) (symbol_at x i)) (attributes_begin depth lifted x i ph.1.0 b ph.1.1) (ap (λ (s : ℕ). is_in (symbol.OpenSquare ∷ []) s) e)
  void_list_back lifted x i j m e at None type d ps ph others =
      let here : symbol_at x ph.1.0 ≡ symbol.Void = ap (λ (k : ℕ). symbol_at x k) ph.1.1 ∙ e in
      let v = void_type depth type lifted x ph.1.0 ph.1.2.0 here ph.1.2.1 in
      let past : ph.1.2.0 ≡ i + 1 = v.1 ∙ ap (λ (k : ℕ). k + 1) ph.1.1 in
      record {
        part = (at, Some (d, ps));
        is = ap (λ (c : TypeSpec). tree.Listed (parameter_of (at, (None, (c, d))) ∷ ps)) v.0;
        phrase = (ph.1.2.0, (eq-eqb (symbol_at x i) symbol.Void e, ph.0, past), (m, ph.1.2.2, others));
      }

  void_back : (t : Text) (i : ℕ) → is_in (symbol.Void ∷ []) (symbol_at t i) ≡ true → (lifted : Lifted) (x : Text) → lexeme_at x i ≡ lexeme_at t i → (c : Parameters) (j : ℕ)
      → some_parameters c lifted x i j → closing x j
      → Void_part lifted x i j c
  void_back t i h lifted x e c j ph stop = by_case c ph where
    one : (b : Bool) → (b || false) ≡ true → b ≡ true
    one true h = refl
    one false h = h

    void_here : symbol_at x i ≡ symbol.Void
    void_here = ap (λ (l : Lexeme). l.symbol) e ∙ eqb-true (symbol_at t i) symbol.Void (one (is (symbol_at t i) symbol.Void) h)

    by_case : (c : Parameters) → some_parameters c lifted x i j → Void_part lifted x i j c
    by_case tree.Absent ph = absurd ph
    by_case tree.Void ph = record { part = ((lexeme_at x i).at, None); is = refl; phrase = (i + 1, (eq-eqb (symbol_at x i) symbol.Void ph.0, refl, refl), ph.1) }
    by_case (tree.Listed []) ph = absurd ph
    by_case (tree.Listed (p ∷ ps)) ph = void_list_back lifted x i j ph.0 void_here p.at p.attributes p.type p.declarator ps ph.1 ph.2

  list_back : (t : Text) (i : ℕ) → is_in (symbol.Void ∷ []) (symbol_at t i) ≡ false → (lifted : Lifted) (x : Text) → lexeme_at x i ≡ lexeme_at t i → (c : Parameters) (j : ℕ)
      → some_parameters c lifted x i j → closing x j
      → Part (commas (parameter depth)) some_parameters tree.Listed lifted x i j c
  list_back t i h lifted x e tree.Absent j ph stop = absurd ph
  list_back t i h lifted x e tree.Void j ph stop =
      clash (is_in (symbol.Void ∷ []) (symbol_at t i)) (ap (λ (l : Lexeme). is_in (symbol.Void ∷ []) l.symbol) (sym e) ∙ ap (λ (s : ℕ). is_in (symbol.Void ∷ []) s) ph.0) h
  list_back t i h lifted x e (tree.Listed ps) j ph stop = record { part = ps; is = refl; phrase = ph }

  some_begins : Begins some_parameters member_firsts
  some_begins lifted x i j tree.Absent ph = absurd ph
  some_begins lifted x i j tree.Void ph = ap (λ (s : ℕ). is_in member_firsts s) ph.0 ∙ void_listed
  some_begins lifted x i j (tree.Listed ps) ph = separated_begins symbol.Comma (parameter depth) member_firsts (parameter_begins depth) lifted x i j ps ph

  abbrev parameters_of : Option Parameters → Parameters
  parameters_of None = tree.Absent
  parameters_of (Some p) = p

  parameters_forth : (lifted : Lifted) (x : Text) (i j : ℕ) (a : Option Parameters) → optional some_parameters a lifted x i j → parameters depth (parameters_of a) lifted x i j
  unfolding parameters
  parameters_forth lifted x i j None ph = ph
  parameters_forth lifted x i j (Some tree.Absent) ph = absurd ph
  parameters_forth lifted x i j (Some tree.Void) ph = ph
  parameters_forth lifted x i j (Some (tree.Listed ps)) ph = ph

  parameters_back : (lifted : Lifted) (x : Text) (i j : ℕ) (c : Parameters) → parameters depth c lifted x i j → Part (optional some_parameters) (parameters depth) parameters_of lifted x i j c
  unfolding parameters
  parameters_back lifted x i j tree.Absent ph = record { part = None; is = refl; phrase = ph }
  parameters_back lifted x i j tree.Void ph = record { part = Some tree.Void; is = refl; phrase = ph }
  parameters_back lifted x i j (tree.Listed ps) ph = record { part = Some (tree.Listed ps); is = refl; phrase = ph }

  pub parameters_has : HasPhrase (parameters depth)
  parameters_has = turned_has (optional some_parameters) (parameters depth) parameters_of parameters_forth (optional_has some_parameters)

  module _ (fuel nesting : ℕ) (enough : 129 ≤ nesting) (shallow : depth ≤ 64) (fueled : 65 ≤ fuel + depth) (t : Text) where
    abbrev behind_first_read : ℕ → Read (Declarator × List Parameter)
    behind_first_read i = and_then (declarator_read nesting t depth i) (λ d m. more_parameters_read fuel nesting t depth m)

    behind_first_exact : (i : ℕ) → i ≤ length t → Exact behind_first (stops declarators_ends) t i (behind_first_read i)
    behind_first_exact i in_text =
        pair_exact (declarator depth) (many (symbol.Comma ⊳ parameter depth)) (stops declarator_ends) (stops declarators_ends)
        (meets_or (many (symbol.Comma ⊳ parameter depth)) (symbol.Comma ∷ []) declarator_ends declarators_ends
        (list_begins (symbol.Comma ⊳ parameter depth) (symbol.Comma ∷ []) (skip_begins symbol.Comma (parameter depth))) refl refl)
        (many_has (symbol.Comma ⊳ parameter depth)) t i (declarator_read nesting t depth i) (λ d m. more_parameters_read fuel nesting t depth m) (declarator_exact nesting enough t depth i in_text)
        (λ d m found. more_exact depth fuel nesting enough shallow fueled t m found.within)

    void_parts_exact : (i : ℕ) → i ≤ length t → Exact void_parts closing t i (and_then (placed_read symbol.Void t i) (λ at m. unless_read symbol.CloseRound t behind_first_read m))
    void_parts_exact i in_text =
        pair_exact (placed symbol.Void) (optional behind_first) (stops []) closing (λ lifted x m j b ph stop. refl) (optional_has behind_first) t i (placed_read symbol.Void t i)
        (λ at m. unless_read symbol.CloseRound t behind_first_read m)
        (placed_exact symbol.Void refl (stops []) t i in_text)
        (λ at m found.
        unless_exact behind_first declarator_firsts behind_first_begins symbol.CloseRound declarators_no_close (stops declarators_ends) closing_ends t m found.within behind_first_read
        (behind_first_exact m found.within))

    void_is : (i : ℕ) → turned void_of (and_then (placed_read symbol.Void t i) (λ at m. unless_read symbol.CloseRound t behind_first_read m))
        ≡ bind_read (placed_read symbol.Void t i) (λ at m. branch_read (symbol.CloseRound ∷ []) t m (Ok (tree.Void, m)) (void_parameters_read fuel nesting t depth at m))
    unfolding void_parameters_read
    void_is i =
        bind_is void_made (placed_read symbol.Void t i) (λ at m. unless_read symbol.CloseRound t behind_first_read m)
        ∙ bind_alike (placed_read symbol.Void t i) _ _ (λ at m. unless_is (void_made at) symbol.CloseRound t behind_first_read m)

    abbrev void_read : ℕ → Read Parameters
    void_read i = bind_read (placed_read symbol.Void t i) (λ at m. branch_read (symbol.CloseRound ∷ []) t m (Ok (tree.Void, m)) (void_parameters_read fuel nesting t depth at m))

    abbrev list_read_of : ℕ → Read Parameters
    list_read_of i = turned tree.Listed (commas_read t (parameter_read fuel nesting t depth) i)

    some_case : (i : ℕ) → i ≤ length t → (b : Bool) → is_in (symbol.Void ∷ []) (symbol_at t i) ≡ b → Exact some_parameters closing t i (cond b (void_read i) (list_read_of i))
    some_case i in_text true h =
        subst (λ (r : Read Parameters). Exact some_parameters closing t i r) (void_is i)
        (turned_exact void_parts some_parameters void_of (λ lifted x i j a ph. void_forth lifted x i j a ph) closing t i (λ lifted x e c j ph stop. void_back t i h lifted x e c j ph stop) _
        (void_parts_exact i in_text))
    some_case i in_text false h =
        turned_exact (commas (parameter depth)) some_parameters tree.Listed (λ lifted x i j a ph. ph) closing t i (λ lifted x e c j ph stop. list_back t i h lifted x e c j ph stop) _
        (stopped_exact (commas (parameter depth)) (stops declarators_ends) closing t i closing_ends _ (list_of_exact depth fuel nesting enough shallow fueled t i in_text))

    abbrev some_parameters_read : ℕ → Read Parameters
    some_parameters_read i = branch_read (symbol.Void ∷ []) t i (void_read i) (list_read_of i)

    parameters_is : (i : ℕ) → turned parameters_of (unless_read symbol.CloseRound t some_parameters_read i) ≡ parameters_read fuel nesting t depth i
    unfolding parameters_read
    parameters_is i =
        unless_is parameters_of symbol.CloseRound t some_parameters_read i
        ∙ ap (λ (r : Read Parameters). branch_read (symbol.CloseRound ∷ []) t i (Ok (tree.Absent, i)) r) (turned_same (some_parameters_read i))

    pub parameters_exact : (i : ℕ) → i ≤ length t → Exact (parameters depth) closing t i (parameters_read fuel nesting t depth i)
    parameters_exact i in_text =
        subst (λ (r : Read Parameters). Exact (parameters depth) closing t i r) (parameters_is i)
        (turned_exact (optional some_parameters) (parameters depth) parameters_of parameters_forth closing t i (λ lifted x e c j ph stop. parameters_back lifted x i j c ph) _
        (unless_exact some_parameters member_firsts some_begins symbol.CloseRound members_no_close closing (λ x j stop. stop) t i in_text some_parameters_read
        (some_case i in_text (is_in (symbol.Void ∷ []) (symbol_at t i)) refl)))
