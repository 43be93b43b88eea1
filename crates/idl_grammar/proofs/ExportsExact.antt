-- Declarations are read exactly.
use Rattle.std.proofs.Common.{◌≡◌, ℕ, ◌+◌, ◌≤◌, Bool, true, false, List, [], ◌∷◌, length, refl, sym, subst, arith, ◌⊎◌, inl, inr, Option, Some, None}
use Rattle.idl_grammar.specs.Text.{Text, lexeme_at, is_in, Lifted, Rel, mark, optional, located, made, ◌⊗◌, ◌⊳◌, ◌⊲◌, ◌∣◌}
use Rattle.idl_grammar.specs.ReadPhrases.{Read, and_then, turned, mark_read, located_read}
use Rattle.idl_grammar.proofs.Exact.{Exact, HasPhrase, Part, pair_exact}
use Rattle.idl_grammar.proofs.Parts.{marked, mark_exact, mark_has, pair_has, turned_has, optional_has}
use Rattle.idl_grammar.proofs.Sequences.{stops, Begins, subset, disjoint, meets_first, skip_exact, skip_has, skip_begins, end_exact, end_has, end_begins, pair_begins, or_pair_begins}
use Rattle.idl_grammar.proofs.Sequences.{located_exact, bracketed_exact, bracketed_has, made_exact, made_begins}
use Rattle.idl_grammar.specs.declared.words.Spelling.{Spelling}
use Rattle.idl_grammar.specs.declared.types.SimpleType.{SimpleType}
use Rattle.idl_grammar.specs.Symbols as symbol
use Rattle.idl_grammar.specs.Expressions.{names, spelled, placed, ident, outer}
use Rattle.idl_grammar.specs.Tree as tree
use Rattle.idl_grammar.specs.Tree.{Expr, Attributes, Declarator, Init, TypeSpec, Parameters, Export}
use Rattle.idl_grammar.specs.ReadExpressions.{spelled_read, placed_read, ident_read, outer_read}
use Rattle.idl_grammar.specs.Grammar.{flag, in_round, simple, attributes, declarators, type_spec, parameters, init}
use Rattle.idl_grammar.specs.Reading.{flag_read, line_read, simple_read, maybe_attributes_read, declarators_read, type_firsts, member_firsts, type_read, parameters_read, init_read, typedef_read}
use Rattle.idl_grammar.specs.Reading.{const_read, signature_read, declared_of, declared_read}
use Rattle.idl_grammar.proofs.Combine.{changed_exact, turned_twice, branch_exact, branch_begins, flag_exact, flag_has, flag_begins, mark_begins, spelled_exact, spelled_begins, placed_exact}
use Rattle.idl_grammar.proofs.Combine.{placed_begins, ident_exact, ident_has, ident_begins, either, either_exact, either_begins, before_meets}
use Rattle.idl_grammar.proofs.OuterExact.{expr_firsts, expr_ends, outer_exact, outer_has, outer_begins}
use Rattle.idl_grammar.proofs.SimpleExact.{simple_ends, simple_exact, simple_has}
use Rattle.idl_grammar.proofs.AttributesExact.{star_not_name}
use Rattle.idl_grammar.proofs.AttributeLists.{maybe_attributes_exact, maybe_attributes_begin}
use Rattle.idl_grammar.proofs.DeclaratorsExact.{declarator_firsts, declarators_ends, declarators_exact, declarators_has, declarators_begin, star_declares, name_declares}
use Rattle.idl_grammar.proofs.TypeParts.{type_ends, declarators_end_types, types_no_square}
use Rattle.idl_grammar.proofs.TypeAlternatives.{type_begins, type_has}
use Rattle.idl_grammar.proofs.TypesExact.{type_exact}
use Rattle.idl_grammar.proofs.ParameterExact.{members_real, types_member, square_member}
use Rattle.idl_grammar.proofs.ParametersExact.{closing, parameters_exact, parameters_has}

-- ## the values of constants

null_apart : disjoint (expr_firsts false) (symbol.Null ∷ []) ≡ true
unfolding expr_firsts names
null_apart = refl

text_apart : disjoint (symbol.Null ∷ expr_firsts false) (symbol.Quoted ∷ []) ≡ true
unfolding expr_firsts names
text_apart = refl

exprs_in : subset (expr_firsts false) (symbol.Null ∷ expr_firsts false) ≡ true
unfolding expr_firsts names
exprs_in = refl

init_closes : is_in expr_ends symbol.Semicolon ≡ false
unfolding expr_ends
init_closes = refl

module _ (depth : ℕ) where
  abbrev texts : Rel Init
  texts = made tree.Text (spelled symbol.Quoted)

  abbrev nulls : Rel Init
  nulls = made tree.Null (placed symbol.Null)

  abbrev values : Rel Init
  values = made tree.Value (outer false depth)

  init_forth : (lifted : Lifted) (x : Text) (i j : ℕ) (c : Init) → either texts (either nulls values) c lifted x i j → init depth c lifted x i j
  unfolding init
  init_forth lifted x i j c (inl ph) = subst (λ (v : Init). init depth v lifted x i j) (sym ph.1) ph.2
  init_forth lifted x i j c (inr (inl ph)) = subst (λ (v : Init). init depth v lifted x i j) (sym ph.1) ph.2
  init_forth lifted x i j c (inr (inr ph)) = subst (λ (v : Init). init depth v lifted x i j) (sym ph.1) ph.2

  init_back : (lifted : Lifted) (x : Text) (i j : ℕ) (c : Init) → init depth c lifted x i j → either texts (either nulls values) c lifted x i j
  unfolding init
  init_back lifted x i j (tree.Text s) ph = inl (s, refl, ph)
  init_back lifted x i j (tree.Null at) ph = inr (inl (at, refl, ph))
  init_back lifted x i j (tree.Value e) ph = inr (inr (e, refl, ph))

  init_has : HasPhrase (init depth)
  init_has = turned_has (outer false depth) (init depth) tree.Value (λ lifted x i j a ph. init_forth lifted x i j (tree.Value a) (inr (inr (a, refl, ph)))) (outer_has false depth)

  texts_begin : Begins texts (symbol.Quoted ∷ [])
  texts_begin = made_begins tree.Text (spelled symbol.Quoted) (symbol.Quoted ∷ []) (spelled_begins symbol.Quoted refl)

  nulls_begin : Begins nulls (symbol.Null ∷ [])
  nulls_begin = made_begins tree.Null (placed symbol.Null) (symbol.Null ∷ []) (placed_begins symbol.Null refl)

  values_begin : Begins values (expr_firsts false)
  values_begin = made_begins tree.Value (outer false depth) (expr_firsts false) (outer_begins false depth)

  init_exact : (nesting : ℕ) → 129 ≤ nesting → depth ≤ 64 → (t : Text) (i : ℕ) → i ≤ length t → Exact (init depth) (stops expr_ends) t i (init_read nesting t depth i)
  unfolding init_read
  init_exact nesting enough shallow t i in_text =
      changed_exact (either texts (either nulls values)) (init depth) init_forth (stops expr_ends) t i (λ lifted x e c j ph stop. init_back lifted x i j c ph) _
      (either_exact texts (either nulls values) (symbol.Quoted ∷ []) (symbol.Null ∷ expr_firsts false) texts_begin
      (either_begins nulls values (symbol.Null ∷ []) (expr_firsts false) nulls_begin values_begin null_apart (symbol.Null ∷ expr_firsts false) refl exprs_in) text_apart (stops expr_ends) t i _ _
      (λ h. made_exact tree.Text (spelled symbol.Quoted) (stops expr_ends) t i (spelled_read symbol.Quoted t i) (spelled_exact symbol.Quoted refl (stops expr_ends) t i in_text))
      (either_exact nulls values (symbol.Null ∷ []) (expr_firsts false) nulls_begin values_begin null_apart (stops expr_ends) t i _ _
      (λ h. made_exact tree.Null (placed symbol.Null) (stops expr_ends) t i (placed_read symbol.Null t i) (placed_exact symbol.Null refl (stops expr_ends) t i in_text))
      (made_exact tree.Value (outer false depth) (stops expr_ends) t i (outer_read nesting false t depth i) (outer_exact nesting false t depth i enough shallow in_text))))

-- ## what begins at an octet

-- a phrase with its octet, read with the octet of the next token
pub at_exact : {A C : Type 0} (make : ℕ × A → C) (P : Rel A) (firsts : List ℕ) (t : Text) (i : ℕ) → Begins P firsts → is_in firsts 0 ≡ false → (r : Read A) → Exact P (stops []) t i r
    → Exact (made make (located P)) (stops []) t i (turned (λ a. make ((lexeme_at t i).at, a)) r)
at_exact {A = A} {C = C} make P firsts t i begins real r exact =
    subst (λ (v : Read C). Exact (made make (located P)) (stops []) t i v) (turned_twice (λ (a : A). ((lexeme_at t i).at, a)) make r)
    (made_exact make (located P) (stops []) t i (located_read t i r) (located_exact P firsts (stops []) t i begins real r exact))

-- ## definitions of types

pipes_no_square : disjoint (symbol.Pipe ∷ type_firsts) (symbol.OpenSquare ∷ []) ≡ true
unfolding type_firsts names
pipes_no_square = refl

types_no_pipe : disjoint type_firsts (symbol.Pipe ∷ []) ≡ true
unfolding type_firsts names
types_no_pipe = refl

types_in_pipes : subset type_firsts (symbol.Pipe ∷ type_firsts) ≡ true
unfolding type_firsts names
types_in_pipes = refl

module _ (depth : ℕ) where
  abbrev declared_line : Rel (TypeSpec × List Declarator)
  declared_line = type_spec depth ⊗ (declarators depth ⊲ symbol.Semicolon)

  declared_line_begins : Begins declared_line type_firsts
  declared_line_begins = pair_begins (type_spec depth) (declarators depth ⊲ symbol.Semicolon) type_firsts (type_begins depth)

  declared_line_has : HasPhrase declared_line
  declared_line_has = pair_has _ _ (type_has depth) (end_has (declarators depth) symbol.Semicolon refl (declarators_has depth))

  abbrev piped : Rel (Bool × (TypeSpec × List Declarator))
  piped = flag symbol.Pipe ⊗ declared_line

  piped_begins : Begins piped (symbol.Pipe ∷ type_firsts)
  piped_begins = or_pair_begins (flag symbol.Pipe) declared_line (symbol.Pipe ∷ []) type_firsts (symbol.Pipe ∷ type_firsts) (flag_begins symbol.Pipe refl) declared_line_begins refl types_in_pipes

  piped_has : HasPhrase piped
  piped_has = pair_has _ _ (flag_has symbol.Pipe refl) declared_line_has

  abbrev typedef_tail : Rel (Option Attributes × (Bool × (TypeSpec × List Declarator)))
  typedef_tail = optional (attributes depth) ⊗ piped

  typedef_tail_has : HasPhrase typedef_tail
  typedef_tail_has = pair_has _ _ (optional_has (attributes depth)) piped_has

  abbrev pub typedef_line : Rel (Option Attributes × (Bool × (TypeSpec × List Declarator)))
  typedef_line = symbol.Typedef ⊳ typedef_tail

  abbrev pub typedef_of : ℕ × (Option Attributes × (Bool × (TypeSpec × List Declarator))) → Export
  typedef_of p = tree.Typedef p.0 p.1.0 p.1.1.0 p.1.1.1.0 p.1.1.1.1

  -- ## constants

  abbrev valued : Rel Init
  valued = symbol.Equals ⊳ (init depth ⊲ symbol.Semicolon)

  valued_has : HasPhrase valued
  valued_has = skip_has symbol.Equals (init depth ⊲ symbol.Semicolon) refl (end_has (init depth) symbol.Semicolon refl (init_has depth))

  abbrev starred : Rel (Bool × (Spelling × Init))
  starred = flag symbol.Star ⊗ (ident false ⊗ valued)

  starred_begins : Begins starred declarator_firsts
  starred_begins =
      or_pair_begins (flag symbol.Star) (ident false ⊗ valued) (symbol.Star ∷ []) (names false) declarator_firsts (flag_begins symbol.Star refl)
      (pair_begins (ident false) valued (names false) (ident_begins false)) star_declares name_declares

  starred_has : HasPhrase starred
  starred_has = pair_has _ _ (flag_has symbol.Star refl) (pair_has _ _ (ident_has false) valued_has)

  abbrev const_tail : Rel (SimpleType × (Bool × (Spelling × Init)))
  const_tail = simple ⊗ starred

  abbrev pub const_line : Rel (SimpleType × (Bool × (Spelling × Init)))
  const_line = symbol.Const ⊳ const_tail

  abbrev pub const_of : ℕ × (SimpleType × (Bool × (Spelling × Init))) → Export
  const_of p = tree.Const p.0 p.1.0 p.1.1.0 p.1.1.1.0 p.1.1.1.1

  declarators_end_simple : disjoint declarator_firsts simple_ends ≡ true
  unfolding declarator_firsts names
  declarators_end_simple = refl

  -- ## types alone, and operations

  abbrev bracketed_parameters : Rel Parameters
  bracketed_parameters = in_round depth (parameters (depth + 1))

  bracketed_parameters_has : HasPhrase bracketed_parameters
  bracketed_parameters_has = bracketed_has depth symbol.OpenRound symbol.CloseRound (parameters (depth + 1)) refl refl (parameters_has (depth + 1))

  abbrev signature : Rel (Spelling × Parameters)
  signature = ident false ⊗ (bracketed_parameters ⊲ symbol.Semicolon)

  signature_begins : Begins signature (names false)
  signature_begins = pair_begins (ident false) (bracketed_parameters ⊲ symbol.Semicolon) (names false) (ident_begins false)

  signature_has : HasPhrase signature
  signature_has = pair_has _ _ (ident_has false) (end_has bracketed_parameters symbol.Semicolon refl bracketed_parameters_has)

  abbrev pub signed : Rel (Option (Spelling × Parameters))
  signed None = mark symbol.Semicolon
  signed (Some s) = signature s

  abbrev signed_of : Unit {0} ⊎ (Spelling × Parameters) → Option (Spelling × Parameters)
  signed_of (inl u) = None
  signed_of (inr s) = Some s

  signed_forth : (lifted : Lifted) (x : Text) (i j : ℕ) (a : Unit {0} ⊎ (Spelling × Parameters)) → (marked symbol.Semicolon ∣ signature) a lifted x i j → signed (signed_of a) lifted x i j
  signed_forth lifted x i j (inl u) ph = ph
  signed_forth lifted x i j (inr s) ph = ph

  signed_back : (lifted : Lifted) (x : Text) (i j : ℕ) (c : Option (Spelling × Parameters)) → signed c lifted x i j → Part (marked symbol.Semicolon ∣ signature) signed signed_of lifted x i j c
  signed_back lifted x i j None ph = record { part = inl tt; is = refl; phrase = ph }
  signed_back lifted x i j (Some s) ph = record { part = inr s; is = refl; phrase = ph }

  semicolon_no_name : disjoint (names false) (symbol.Semicolon ∷ []) ≡ true
  unfolding names
  semicolon_no_name = refl

  names_signed : subset (names false) (symbol.Semicolon ∷ names false) ≡ true
  unfolding names
  names_signed = refl

  signed_begins : Begins signed (symbol.Semicolon ∷ names false)
  signed_begins =
      branch_begins (marked symbol.Semicolon) signature signed signed_of (symbol.Semicolon ∷ []) (names false)
      (mark_begins symbol.Semicolon refl) signature_begins semicolon_no_name signed_forth signed_back (symbol.Semicolon ∷ names false) refl
      names_signed

  signed_has : HasPhrase signed
  signed_has = turned_has (marked symbol.Semicolon) signed (λ u. None) (λ lifted x i j a ph. ph) (mark_has symbol.Semicolon refl)

  signed_no_type : disjoint (symbol.Semicolon ∷ names false) type_ends ≡ true
  unfolding names
  signed_no_type = refl

  abbrev typed : Rel (TypeSpec × Option (Spelling × Parameters))
  typed = type_spec depth ⊗ signed

  typed_begins : Begins typed type_firsts
  typed_begins = pair_begins (type_spec depth) signed type_firsts (type_begins depth)

  typed_has : HasPhrase typed
  typed_has = pair_has _ _ (type_has depth) signed_has

  abbrev pub typed_line : Rel (Option Attributes × (TypeSpec × Option (Spelling × Parameters)))
  typed_line = optional (attributes depth) ⊗ typed

  pub typed_line_begins : Begins typed_line member_firsts
  typed_line_begins = or_pair_begins (optional (attributes depth)) typed (symbol.OpenSquare ∷ []) type_firsts member_firsts (maybe_attributes_begin depth) typed_begins square_member types_member

  abbrev pub typed_of : ℕ × (Option Attributes × (TypeSpec × Option (Spelling × Parameters))) → Export
  typed_of p = declared_of p.0 p.1

  module _ (fuel nesting : ℕ) (enough : 129 ≤ nesting) (shallow : depth ≤ 64) (fueled : 65 ≤ fuel + depth) (t : Text) where
    declared_line_exact : (i : ℕ) → i ≤ length t → Exact declared_line (stops []) t i (and_then (type_read fuel nesting t depth i) (λ c r. line_read t (declarators_read nesting t depth r)))
    declared_line_exact i in_text =
        pair_exact (type_spec depth) (declarators depth ⊲ symbol.Semicolon) (stops type_ends) (stops [])
        (meets_first (declarators depth ⊲ symbol.Semicolon) declarator_firsts type_ends (stops [])
        (end_begins (declarators depth) symbol.Semicolon declarator_firsts (declarators_begin depth)) declarators_end_types)
        (end_has (declarators depth) symbol.Semicolon refl (declarators_has depth)) t i (type_read fuel nesting t depth i) (λ c r. line_read t (declarators_read nesting t depth r))
        (type_exact nesting enough t fuel depth i shallow fueled in_text)
        (λ c r found. end_exact (declarators depth) symbol.Semicolon declarators_ends (stops []) t r refl refl (declarators_read nesting t depth r)
        (declarators_exact nesting enough t depth r found.within))

    pub typedef_exact : (i : ℕ) → i ≤ length t → Exact (made typedef_of (located typedef_line)) (stops []) t i (typedef_read fuel nesting t depth (lexeme_at t i).at i)
    unfolding typedef_read
    typedef_exact i in_text =
        at_exact typedef_of typedef_line (symbol.Typedef ∷ []) t i (skip_begins symbol.Typedef typedef_tail) refl _
        (skip_exact symbol.Typedef typedef_tail (stops []) t i refl in_text typedef_tail_has _
        (λ m after in_m.
        pair_exact (optional (attributes depth)) piped (stops (symbol.OpenSquare ∷ [])) (stops [])
        (meets_first piped (symbol.Pipe ∷ type_firsts) (symbol.OpenSquare ∷ []) (stops []) piped_begins pipes_no_square) piped_has t m
        (maybe_attributes_read nesting t depth m) _ (maybe_attributes_exact nesting enough t depth m in_m)
        (λ a o found.
        pair_exact (flag symbol.Pipe) declared_line (stops (symbol.Pipe ∷ [])) (stops [])
        (meets_first declared_line type_firsts (symbol.Pipe ∷ []) (stops []) declared_line_begins types_no_pipe) declared_line_has t o
        (flag_read symbol.Pipe t o) (λ pipe q. and_then (type_read fuel nesting t depth q) (λ c r. line_read t (declarators_read nesting t depth r)))
        (flag_exact symbol.Pipe refl (symbol.Pipe ∷ []) refl t o found.within)
        (λ pipe q found_q. declared_line_exact q found_q.within))))

    pub const_exact : (i : ℕ) → i ≤ length t → Exact (made const_of (located const_line)) (stops []) t i (const_read nesting t depth (lexeme_at t i).at i)
    unfolding const_read
    const_exact i in_text =
        at_exact const_of const_line (symbol.Const ∷ []) t i (skip_begins symbol.Const const_tail) refl _
        (skip_exact symbol.Const const_tail (stops []) t i refl in_text (pair_has _ _ simple_has starred_has) _
        (λ m after in_m.
        pair_exact simple starred (stops simple_ends) (stops []) (meets_first starred declarator_firsts simple_ends (stops []) starred_begins declarators_end_simple) starred_has t m
        (simple_read t m) _ (simple_exact t m in_m)
        (λ s o found.
        pair_exact (flag symbol.Star) (ident false ⊗ valued) (stops (symbol.Star ∷ [])) (stops [])
        (meets_first (ident false ⊗ valued) (names false) (symbol.Star ∷ []) (stops []) (pair_begins (ident false) valued (names false) (ident_begins false)) (star_not_name false))
        (pair_has _ _ (ident_has false) valued_has) t o
        (flag_read symbol.Star t o) _ (flag_exact symbol.Star refl (symbol.Star ∷ []) refl t o found.within)
        (λ star q found_q.
        pair_exact (ident false) valued (stops []) (stops []) (λ lifted x m j b ph stop. refl) valued_has t q (ident_read false t q) _ (ident_exact false (stops []) t q found_q.within)
        (λ name r found_r.
        skip_exact symbol.Equals (init depth ⊲ symbol.Semicolon) (stops []) t r refl found_r.within (end_has (init depth) symbol.Semicolon refl (init_has depth))
        (λ u. line_read t (init_read nesting t depth u))
        (λ u past in_u. end_exact (init depth) symbol.Semicolon expr_ends (stops []) t u refl init_closes (init_read nesting t depth u) (init_exact depth nesting enough shallow t u in_u)))))))

    signature_exact : (i : ℕ) → i ≤ length t → Exact signature (stops []) t i (signature_read fuel nesting t depth i)
    unfolding signature_read
    signature_exact i in_text =
        pair_exact (ident false) (bracketed_parameters ⊲ symbol.Semicolon) (stops []) (stops []) (λ lifted x m j b ph stop. refl)
        (end_has bracketed_parameters symbol.Semicolon refl bracketed_parameters_has) t i
        (ident_read false t i) _ (ident_exact false (stops []) t i in_text)
        (λ name m found.
        end_exact bracketed_parameters symbol.Semicolon [] (stops []) t m refl refl _
        (bracketed_exact depth symbol.OpenRound symbol.CloseRound (parameters (depth + 1)) refl refl closing (stops []) t m found.within (before_meets symbol.CloseRound) (parameters_has (depth + 1))
        (parameters_read fuel nesting t (depth + 1))
        (λ room o after in_o. parameters_exact (depth + 1) fuel nesting enough (omega arith) (omega arith) t o in_o)))

    pub typed_exact : (i : ℕ) → i ≤ length t → Exact (made typed_of (located typed_line)) (stops []) t i (declared_read fuel nesting t depth (lexeme_at t i).at i)
    unfolding declared_read
    typed_exact i in_text =
        at_exact typed_of typed_line member_firsts t i typed_line_begins members_real _
        (pair_exact (optional (attributes depth)) typed (stops (symbol.OpenSquare ∷ [])) (stops [])
        (meets_first typed type_firsts (symbol.OpenSquare ∷ []) (stops []) typed_begins types_no_square) typed_has t i
        (maybe_attributes_read nesting t depth i) _ (maybe_attributes_exact nesting enough t depth i in_text)
        (λ a m found.
        pair_exact (type_spec depth) signed (stops type_ends) (stops []) (meets_first signed (symbol.Semicolon ∷ names false) type_ends (stops []) signed_begins signed_no_type) signed_has t m
        (type_read fuel nesting t depth m) _ (type_exact nesting enough t fuel depth m shallow fueled found.within)
        (λ c o found_c.
        branch_exact (marked symbol.Semicolon) signature signed signed_of (symbol.Semicolon ∷ []) (names false)
        (mark_begins symbol.Semicolon refl) signature_begins semicolon_no_name signed_forth signed_back (stops []) t o
        (mark_read symbol.Semicolon t o) (signature_read fuel nesting t depth o) (λ h. mark_exact symbol.Semicolon refl (stops []) t o found_c.within) (signature_exact o found_c.within))))
